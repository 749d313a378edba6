use Rattle.std.proofs.Common.{◌≡◌, ℕ, List, [], ◌∷◌, map, refl, sym, subst, ◌∙◌, arith, true, ◌==◌}
use Rattle.std.proofs.lemmas.List.{append-nil}
use Rattle.std.proofs.lemmas.Bool.{and_parts, eqb-true}
use Rattle.arraystring.proofs.TextLaws.{bytes_same}
use Rattle.arraystring_run.specs.declared.commands.Command.{Command}
use Rattle.arraystring_run.specs.Effects.{effect}
use Rattle.arraystring_run.specs.CommandLines.{Argument, Number, Character, Text, word, arguments, SpellsArgument, SpellsArguments, IsLineOf, HasNoSpace}
use Rattle.arraystring_run.proofs.CommandLemmas.{kind, numbers_first, kinds-numbers_first, same-kinds, same-effect}
use Rattle.arraystring_run.proofs.LineLemmas.{same-word, spelled-behind, one-word, digits-one}
use Rattle.arraystring_run.proofs.laws.script_has_one_result.Goals as goal

-- bytes spell one argument of a kind
argument-same : (a b : Argument) (bs : List ℕ) → kind a ≡ kind b → SpellsArgument bs a → SpellsArgument bs b → a ≡ b
argument-same (Number m) (Number n) bs e is also = cc
argument-same (Character c) (Character d) bs e is also =
    let same = bytes_same {a = c ∷ []} {b = d ∷ []} (cc (is.1, also.1)) in cc
argument-same (Text s) (Text t) bs e is also = cc
argument-same a b bs e is also = absurd (omega arith)

number-one : (a : Argument) (bs : List ℕ) → kind a ≡ 0 → SpellsArgument bs a → HasNoSpace bs
number-one (Number n) bs e is = digits-one bs is.digits
number-one other bs e is = absurd (omega arith)

arguments-same : (given also : List Argument) (bs : List ℕ) → map kind given ≡ map kind also → numbers_first (map kind given) ≡ true
    → SpellsArguments bs given → SpellsArguments bs also → given ≡ also
arguments-same [] [] bs e first is too = refl
arguments-same (a ∷ []) (b ∷ []) bs e first (f, o, whole, spelled, none) (g, p, also_whole, also_spelled, also_none) =
    let same : f ≡ g = cc (append-nil f, append-nil g) in
    let head = argument-same a b g (cc) (subst (λ l. SpellsArgument l a) same spelled) also_spelled in cc
arguments-same (a ∷ x ∷ given) (b ∷ y ∷ also) bs e first (f, o, whole, spelled, more) (g, p, also_whole, also_spelled, also_more) =
    let parts = and_parts (kind a == 0) (numbers_first (map kind (x ∷ given))) first in
    let number : kind a ≡ 0 = eqb-true (kind a) 0 parts.0 in
    let same = same-word f g o p (number-one a f number spelled) (number-one b g (cc) also_spelled)
    (spelled-behind (x ∷ given) o more) (spelled-behind (y ∷ also) p also_more) (cc) in
    let head = argument-same a b g (cc) (subst (λ l. SpellsArgument l a) same.0 spelled) also_spelled in
    let tail = arguments-same (x ∷ given) (y ∷ also) p (cc) parts.1 (subst (λ l. SpellsArguments l (x ∷ given)) same.1 more) also_more in cc
arguments-same given also bs e first is too = absurd (cc)

line-same : (line : List ℕ) (c d : Command) (t : List ℕ) (n : ℕ) → IsLineOf line c → IsLineOf line d → effect c t n ≡ effect d t n
line-same line c d t n (x, line_is, spelled) (y, also, too) =
    let same = same-word (word c) (word d) x y (one-word c) (one-word d)
    (spelled-behind (arguments c) x spelled) (spelled-behind (arguments d) y too) (sym line_is ∙ also) in
    same-effect c d t n same.0 (arguments-same (arguments c) (arguments d) y (same-kinds c d same.0) (kinds-numbers_first c)
    (subst (λ l. SpellsArguments l (arguments c)) same.1 spelled) too)

pub returns : goal.returns
returns c [] [] [] t n are also = refl
returns c [] [] (e ∷ ds) t n are also = absurd also
returns c [] (d ∷ cs) ds t n are also = absurd are
returns c (line ∷ rest) [] ds t n are also = absurd are
returns c (line ∷ rest) (d ∷ cs) [] t n are also = absurd also
returns c (line ∷ rest) (d ∷ cs) (e ∷ ds) t n are also =
    let same = line-same line d e t n are.0 also.0 in
    let others = returns c rest cs ds (effect e t n).text n are.1 also.1 in cc
