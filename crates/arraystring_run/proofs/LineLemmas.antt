-- Lines as words and arguments: what a line is the line of.
use Rattle.std.proofs.Common.{◌≡◌, ℕ, ◌<◌, List, [], ◌∷◌, ◌++◌, map, refl, sym, subst, ◌∙◌, arith, IsUtf8, nat_lt, true, Option, Some, None, IfNone}
use Rattle.std.specs.Bool.{⊤}
use Rattle.std.proofs.lemmas.List.{append-nil}
use Rattle.std.proofs.lemmas.Bool.{and_parts, ltb-true}
use Rattle.std.proofs.lemmas.Str.{IsUtf8-nil, IsUtf8-append, IsUtf8-from_ascii}
use Rattle.std.proofs.lemmas.Str.Ascii.{IsAscii-nil, IsAscii-cons}
use Rattle.arraystring.specs.Text.{utf8, IsScalarValue}
use Rattle.arraystring.proofs.TextLaws.{bytes-utf8, well_formed-utf8}
use Rattle.arraystring_run.specs.declared.commands.Command.{Command}
use Rattle.arraystring_run.proofs.CommandLemmas.{are_above_space, word-above_space, word-utf8, kind, kinds, same-kinds}
use Rattle.arraystring_run.specs.CommandLines.{Argument, Number, Character, Text, word, arguments, AreDigits, IsNumber, SpellsArgument, SpellsArguments, IsLineOf, HasNoSpace, space}

-- no bytes, or bytes that begin with a space
abbrev pub IsBehindWord : List ℕ → Type 0
IsBehindWord [] = ⊤
IsBehindWord (b ∷ bs) = b ≡ space

pub spelled-behind : (given : List Argument) (bs : List ℕ) → SpellsArguments bs given → IsBehindWord bs
spelled-behind [] bs none = rw none tt
spelled-behind (a ∷ given) bs (first, others, whole, spelled, next) = rw whole refl

-- a word goes to the first space
pub same-word : (v w x y : List ℕ) → HasNoSpace v → HasNoSpace w → IsBehindWord x → IsBehindWord y → v ++ x ≡ w ++ y → (v ≡ w) × (x ≡ y)
same-word [] [] x y one also p q e = (refl, e)
same-word [] (b ∷ w) [] y one also p q e = absurd (cc)
same-word [] (b ∷ w) (a ∷ x) y one also p q e = absurd (also.0 (cc))
same-word (a ∷ v) [] x [] one also p q e = absurd (cc)
same-word (a ∷ v) [] x (b ∷ y) one also p q e = absurd (one.0 (cc))
same-word (a ∷ v) (b ∷ w) x y one also p q e = let rest = same-word v w x y one.1 also.1 p q (cc) in (cc, rest.1)

-- the word of a command
above-one : (bs : List ℕ) → are_above_space bs ≡ true → HasNoSpace bs
unfolding are_above_space
above-one [] e = tt
above-one (b ∷ bs) e =
    let both = and_parts (nat_lt space b) (are_above_space bs) e in
    let above : space < b = ltb-true space b both.0 in (λ is. omega arith, above-one bs both.1)

pub one-word : (c : Command) → HasNoSpace (word c)
one-word c = above-one (word c) (word-above_space c)

-- digits have no space
pub digits-one : (bs : List ℕ) → AreDigits bs → HasNoSpace bs
digits-one [] are = tt
digits-one (b ∷ bs) are = (λ e. omega arith, digits-one bs are.2)

-- what is after a word and a space, read as arguments of these kinds
abbrev pub Reads : List ℕ → List ℕ → Type 0
Reads rest kinds = (given : List Argument) × (map kind given ≡ kinds) × SpellsArguments (space ∷ rest) given

-- the word and the arguments of a line that has a space
pub line-parts : (w rest : List ℕ) (c : Command) → HasNoSpace w → IsLineOf (w ++ space ∷ rest) c
    → (w ≡ word c) × SpellsArguments (space ∷ rest) (arguments c)
line-parts w rest c one (more, e, spelled) =
    let same = same-word w (word c) (space ∷ rest) more one (one-word c) refl (spelled-behind (arguments c) more spelled) e in
    (same.0, subst (λ l. SpellsArguments l (arguments c)) (sym same.1) spelled)

-- no line has the word of d if what follows can't be read as arguments of those kinds
pub unread : (d : Command) (w rest : List ℕ) → HasNoSpace w → w ≡ word d → (Reads rest (kinds d) → ⊥)
    → (c : Command) → IsLineOf (w ++ space ∷ rest) c → ⊥
unread d w rest one known bad c line =
    let found = line-parts w rest c one line in bad (arguments c, same-kinds c d (sym found.0 ∙ known), found.1)

pub no-character : (rest : List ℕ) → ((c : ℕ) → IsScalarValue c → rest ≡ utf8 c → ⊥) → Reads rest (1 ∷ []) → ⊥
no-character rest bad (Character c ∷ [], e, (first, others, whole, character, none)) = bad c character.0 (cc (append-nil first))
no-character rest bad (other, e, spelled) = absurd (cc)

pub no-number : (rest : List ℕ) → ((n : ℕ) → IsNumber rest n → ⊥) → Reads rest (0 ∷ []) → ⊥
no-number rest bad (Number n ∷ [], e, (first, others, whole, number, none)) =
    let is : first ≡ rest = cc (append-nil first) in bad n (rw is at number)
no-number rest bad (other, e, spelled) = absurd (cc)

pub if-none : {T A B : Type 0} (o : Option T) → (A → B) → IfNone o A → IfNone o B
if-none None f a = f a
if-none (Some x) f a = tt

-- a line of a word and arguments
pub line-given : (c : Command) (w rest : List ℕ) → w ≡ word c → SpellsArguments (space ∷ rest) (arguments c) → IsLineOf (w ++ space ∷ rest) c
line-given c w rest e spelled = (space ∷ rest, cc, spelled)

pub spelled-one : (a : Argument) (rest : List ℕ) → SpellsArgument rest a → SpellsArguments (space ∷ rest) (a ∷ [])
spelled-one a rest spelled = (rest, [], cc (append-nil rest), spelled, refl)

-- the line of a command is UTF-8
low-utf8 : (b : ℕ) (bs : List ℕ) → b < 128 → IsUtf8 bs → IsUtf8 (b ∷ bs)
low-utf8 b bs low u = IsUtf8-append (b ∷ []) bs (IsUtf8-from_ascii (b ∷ []) (IsAscii-cons b [] low IsAscii-nil)) u

digits-utf8 : (bs : List ℕ) → AreDigits bs → IsUtf8 bs
digits-utf8 [] are = IsUtf8-nil
digits-utf8 (b ∷ bs) are = low-utf8 b bs (omega arith) (digits-utf8 bs are.2)

argument-utf8 : (a : Argument) (bs : List ℕ) → SpellsArgument bs a → IsUtf8 bs
argument-utf8 (Number n) bs number = digits-utf8 bs number.digits
argument-utf8 (Character c) bs (is, e) = rw (e, ← append-nil (utf8 c)) (bytes-utf8 (c ∷ []) (is, tt))
argument-utf8 (Text t) bs (well, e) = rw e (well_formed-utf8 well)

arguments-utf8 : (given : List Argument) (bs : List ℕ) → SpellsArguments bs given → IsUtf8 bs
arguments-utf8 [] bs none = rw none IsUtf8-nil
arguments-utf8 (a ∷ given) bs (first, others, whole, spelled, next) =
    rw whole (low-utf8 space (first ++ others) (omega arith)
    (IsUtf8-append first others (argument-utf8 a first spelled) (arguments-utf8 given others next)))

pub line-utf8 : (bs : List ℕ) (c : Command) → IsLineOf bs c → IsUtf8 bs
line-utf8 bs c (rest, whole, spelled) =
    rw whole (IsUtf8-append (word c) rest (word-utf8 c) (arguments-utf8 (arguments c) rest spelled))
