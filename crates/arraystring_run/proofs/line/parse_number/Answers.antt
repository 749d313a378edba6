use Rattle.std.proofs.Common.{◌≡◌, ◌<◌, ◌≤◌, ℕ, List, length, true, arith, rules, Result, Ok, Err, IfSome, IfNone}
use Rattle.std.proofs.lemmas.Str.Parse.{numerals_by_fold, parse_plain}
use Rattle.std.proofs.lemmas.Str.Pattern.{starts_char}
use Rattle.std.specs.Result.{OkIff, result_ok}
use Rattle.arraystring_run.specs.CommandLines.{AreDigits, number_continued_by, IsNumber}
use Rattle.arraystring_run.proofs.line.parse_number.Goals as goal

-- what `parse` gives of at most three bytes that begin with no sign
abbrev IsParsed : {E : Type 0} → List ℕ → Result ℕ E → Type 0
IsParsed bs r = OkIff r (AreDigits bs × (0 < length bs) × (number_continued_by 0 bs < 256)) (number_continued_by 0 bs)

parsed : (c : goal.After-ok) → IsParsed c.args.text.now c.parse.result
parsed c = parse_plain (numerals_by_fold AreDigits (search rules) number_continued_by (search rules)) 8 c.args.text.now c.parse.result
    c.parse.ensures.value.0 (λ is.
    let tells = starts_char 43 c.args.text.now c.starts_with.result c.starts_with.ensures.cases (omega arith) (omega arith) in
    let yes : c.starts_with.result ≡ true = tells.1 is in
    absurd (cc (c.if-starts_with.false)))

is-number : {E : Type 0} (bs : List ℕ) (r : Result ℕ E) → length bs ≤ 3 → IsParsed bs r → IfSome (result_ok r) (λ n. IsNumber bs n)
is-number bs (Ok n) short ((digits, some, small), is) = record {
  some = omega arith;
  short = short;
  digits = digits;
  value = is;
  small = omega arith;
}
is-number bs (Err e) short bad = tt

no-number : {E : Type 0} (bs : List ℕ) (r : Result ℕ E) → IsParsed bs r → IfNone (result_ok r) ((n : ℕ) → IsNumber bs n → ⊥)
no-number bs (Ok n) is = tt
no-number bs (Err e) bad = λ n is. bad (is.digits, omega arith, omega arith)

pub returns-clause-some : goal.returns-clause-some
returns-clause-some c = rw c.ok.ensures.value (is-number c.args.text.now c.parse.result (omega arith) (parsed c))

pub returns-clause-none : goal.returns-clause-none
returns-clause-none c = rw c.ok.ensures.value (no-number c.args.text.now c.parse.result (parsed c))
