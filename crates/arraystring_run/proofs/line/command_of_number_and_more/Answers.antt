use Rattle.std.proofs.Common.{◌≡◌, ◌≢◌, ◌≤◌, ℕ, List, ◌∷◌, ◌++◌, [], ◌∙◌, ◌+◌, ◌<◌, ap, map, arith, codes, get_or, length, length-append, refl, subst, sym, true, IsUtf8}
use Rattle.std.proofs.Math.Seq.{get_or-append_seam, drop-append-add}
use Rattle.std.proofs.lemmas.Option.{IfSome_then}
use Rattle.std.proofs.lemmas.Str.{IsUtf8-drop, IsCharBoundary-after_ascii}
use Rattle.arraystring.specs.Text.{IsWellFormed}
use Rattle.arraystring.proofs.TextLaws.{well_formed-utf8, utf8-well_formed}
use Rattle.arraystring_run.specs.declared.commands.Command.{Command}
use Rattle.arraystring_run.specs.declared.commands.Command.TheVariants as command
use Rattle.arraystring_run.specs.CommandLines.{Argument, Number, Character, Text, SpellsArguments, IsNumberBeforeSpace, arguments, word, space}
use Rattle.arraystring_run.proofs.CommandLemmas.{kind, numbers_first, kinds-numbers_first}
use Rattle.arraystring_run.proofs.LineLemmas.{Reads, same-word, digits-one, if-none, unread, line-parts, no-character, no-number, line-given, spelled-one}
use Rattle.arraystring_run.proofs.line.command_of_number_and_more.Goals as goal

reads-before : (rest : List ℕ) (k : ℕ) (kinds : List ℕ) → Reads rest (0 ∷ k ∷ kinds)
    → (n : ℕ) × (behind : List ℕ) × IsNumberBeforeSpace rest n behind × Reads behind (k ∷ kinds)
reads-before rest k kinds (Number n ∷ a ∷ given, e, (first, others, whole, number, (second, more, others_whole, spelled, next))) =
    (n, second ++ more, (first, number, cc), (a ∷ given, cc, (second, more, refl, spelled, next)))
reads-before rest k kinds (other, e, spelled) = absurd (cc)

no-before : (rest : List ℕ) {k : ℕ} {others : List ℕ} → ((n : ℕ) (behind : List ℕ) → IsNumberBeforeSpace rest n behind → ⊥)
    → Reads rest (0 ∷ k ∷ others) → ⊥
no-before rest {k} {others} bad read = let found = reads-before rest k others read in bad found.0 found.1 found.2

-- of two arguments or more the first is a number
no-start : (rest : List ℕ) → ((n : ℕ) (behind : List ℕ) → IsNumberBeforeSpace rest n behind → ⊥)
    → (given : List Argument) → numbers_first (map kind given) ≡ true → 2 ≤ length given → SpellsArguments (space ∷ rest) given → ⊥
no-start rest bad [] first more spelled = omega arith
no-start rest bad (a ∷ []) first more spelled = omega arith
no-start rest bad (Number n ∷ b ∷ given) first more spelled = no-before rest bad (Number n ∷ b ∷ given, refl, spelled)
no-start rest bad other first more spelled = cc

-- the other words of two arguments or more take the ends of a range, and no more
ranges : {w : List ℕ} (c : Command) → 2 ≤ length (arguments c) → w ≡ word c → w ≢ codes "try_insert" → w ≢ codes "try_insert_str"
    → w ≢ codes "insert_str" → w ≢ codes "replace_range" → (m : ℕ) × (n : ℕ) × (arguments c ≡ Number m ∷ Number n ∷ [])
ranges (command.TryInsert i c) more is a b d e = absurd (a is)
ranges (command.TryInsertStr i given) more is a b d e = absurd (b is)
ranges (command.InsertStr i given) more is a b d e = absurd (d is)
ranges (command.Drain m n) more is a b d e = (m, n, refl)
ranges (command.DrainThrough m n) more is a b d e = (m, n, refl)
ranges (command.DrainBack m n) more is a b d e = (m, n, refl)
ranges (command.ReplaceRange m n given) more is a b d e = absurd (e is)
ranges (command.Get m n) more is a b d e = (m, n, refl)
ranges other more is a b d e = absurd (omega arith)

-- what is after a number that was read
reads-behind : (rest : List ℕ) (n : ℕ) (behind : List ℕ) (k : ℕ) (kinds : List ℕ) → IsNumberBeforeSpace rest n behind
    → Reads rest (0 ∷ k ∷ kinds) → Reads behind (k ∷ kinds)
reads-behind rest n behind k kinds (digits, number, e) read =
    let (m, others, (also, is, f), found) = reads-before rest k kinds read in
    let same = same-word digits also (space ∷ behind) (space ∷ others) (digits-one digits number.digits)
    (digits-one also is.digits) refl refl (sym e ∙ f) in
    let this : others ≡ behind = cc in subst (λ l. Reads l (k ∷ kinds)) this found

spelled-before : (rest : List ℕ) (n : ℕ) (behind : List ℕ) (given : List Argument) → IsNumberBeforeSpace rest n behind
    → SpellsArguments (space ∷ behind) given → SpellsArguments (space ∷ rest) (Number n ∷ given)
spelled-before rest n behind given (digits, number, e) spelled = (digits, space ∷ behind, cc, number, spelled)

-- what follows a space is well formed
number-behind : (bs : List ℕ) (n : ℕ) (rest : List ℕ) → IsUtf8 bs → IsNumberBeforeSpace bs n rest → IsWellFormed rest
number-behind bs n rest utf8 (front, number, e) =
    let line = front ++ space ∷ rest in
    let u = subst IsUtf8 e utf8 in
    let here : get_or line (length front) 0 ≡ space = get_or-append_seam front space rest 0 in
    let within : length front < length line = omega (arith, length-append front (space ∷ rest)) in
    utf8-well_formed {bs = rest} (subst IsUtf8 (drop-append-add front (space ∷ rest) 1)
    (IsUtf8-drop line (length front + 1) u (IsCharBoundary-after_ascii line (length front) u within (omega arith))))

pub returns-in_err-only_char-in-try_insert-clause-none : goal.returns-in_err-only_char-in-try_insert-clause-none
returns-in_err-only_char-in-try_insert-clause-none c =
    rw c.from_residual-in_err-only_char-in-try_insert.ensures (λ d more line.
    unread (command.TryInsert 0 0) _ _ c.requires c.in-try_insert.is (λ read.
    no-character _ c.in_err-only_char-in-try_insert.ensures.none (reads-behind _ _ _ _ _ c.in_ok-start.ensures.some read)) d line)

pub returns-in_ok-only_char-in-try_insert-clause-some : goal.returns-in_ok-only_char-in-try_insert-clause-some
returns-in_ok-only_char-in-try_insert-clause-some c =
    line-given (command.TryInsert _ _) _ _ c.in-try_insert.is
    (spelled-before _ _ _ (Character _ ∷ []) c.in_ok-start.ensures.some (spelled-one (Character _) _ c.in_ok-only_char-in-try_insert.ensures.some))

pub returns-in-try_insert_str-clause-some : goal.returns-in-try_insert_str-clause-some
returns-in-try_insert_str-clause-some c =
    let before = c.in_ok-start.ensures.some in
    line-given (command.TryInsertStr _ c.in_ok-start.rest) _ _ c.in-try_insert_str.is
    (spelled-before _ _ _ (Text _ ∷ []) before (spelled-one (Text _) _ (number-behind _ _ _ c.utf8.rest before, refl)))

pub returns-in-insert_str-clause-some : goal.returns-in-insert_str-clause-some
returns-in-insert_str-clause-some c =
    let before = c.in_ok-start.ensures.some in
    line-given (command.InsertStr _ c.in_ok-start.rest) _ _ c.in-insert_str.is
    (spelled-before _ _ _ (Text _ ∷ []) before (spelled-one (Text _) _ (number-behind _ _ _ c.utf8.rest before, refl)))

pub returns-in_err-end-in-replace_range-clause-none : goal.returns-in_err-end-in-replace_range-clause-none
returns-in_err-end-in-replace_range-clause-none c =
    rw c.from_residual-in_err-end-in-replace_range.ensures (λ d more line.
    unread (command.ReplaceRange 0 0 c.args.rest) _ _ c.requires c.in-replace_range.is (λ read.
    no-before _ c.in_err-end-in-replace_range.ensures.none (reads-behind _ _ _ _ _ c.in_ok-start.ensures.some read)) d line)

pub returns-in_ok-end-in-replace_range-clause-some : goal.returns-in_ok-end-in-replace_range-clause-some
returns-in_ok-end-in-replace_range-clause-some c =
    let before = c.in_ok-start.ensures.some in
    let next = c.in_ok-end-in-replace_range.ensures.some in
    let well = number-behind _ _ _ (well_formed-utf8 (number-behind _ _ _ c.utf8.rest before)) next in
    line-given (command.ReplaceRange _ _ c.in_ok-end-in-replace_range.given) _ _ c.in-replace_range.is
    (spelled-before _ _ _ (Number _ ∷ Text _ ∷ []) before (spelled-before _ _ _ (Text _ ∷ []) next (spelled-one (Text _) _ (well, refl))))

pub returns-in_err-start-clause-none : goal.returns-in_err-start-clause-none
returns-in_err-start-clause-none c =
    rw c.from_residual.ensures (λ d more line.
    no-start _ c.in_err-start.ensures.none (arguments d) (kinds-numbers_first d) more (line-parts _ _ d c.requires line).1)

pub returns-in_err-parse_number-in_default-clause-none : goal.returns-in_err-parse_number-in_default-clause-none
returns-in_err-parse_number-in_default-clause-none c =
    rw c.from_residual-in_err-parse_number-in_default.ensures (λ d more line.
    let (is, spelled) = line-parts _ _ d c.requires line in
    let arm = c.in_default in
    let (m, n, ends) = ranges d more is arm.not-try_insert arm.not-try_insert_str arm.not-insert_str arm.not-replace_range in
    no-number _ c.in_err-parse_number-in_default.ensures.none (reads-behind _ _ _ _ _ c.in_ok-start.ensures.some (arguments d, ap (map kind) ends, spelled)))

pub returns-in_ok-parse_number-in_default-clause-some : goal.returns-in_ok-parse_number-in_default-clause-some
returns-in_ok-parse_number-in_default-clause-some c =
    IfSome_then c.command_of_range.result c.command_of_range.ensures.some (λ d found.
    line-given d _ _ found.0 (subst (SpellsArguments _) (sym found.1)
    (spelled-before _ _ _ (Number _ ∷ []) c.in_ok-start.ensures.some (spelled-one (Number _) _ c.in_ok-parse_number-in_default.ensures.some))))

pub returns-in_ok-parse_number-in_default-clause-none : goal.returns-in_ok-parse_number-in_default-clause-none
returns-in_ok-parse_number-in_default-clause-none c =
    if-none c.command_of_range.result (λ none d more line.
    let (is, spelled) = line-parts _ _ d c.requires line in
    let arm = c.in_default in
    let (m, n, ends) = ranges d more is arm.not-try_insert arm.not-try_insert_str arm.not-insert_str arm.not-replace_range in
    none d m n is ends) c.command_of_range.ensures.none
