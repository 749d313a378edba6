use Rattle.std.proofs.Common.{[], ◌∷◌, ◌∙◌, refl, sym, subst}
use Rattle.std.proofs.lemmas.List.{append-nil}
use Rattle.arraystring_run.specs.CommandLines.{IsNumber, space}
use Rattle.arraystring_run.proofs.LineLemmas.{same-word, digits-one}
use Rattle.arraystring_run.proofs.line.number_before_space.Goals as goal

pub returns-in_err-digits-clause-none : goal.returns-in_err-digits-clause-none
returns-in_err-digits-clause-none c =
    rw c.from_residual.ensures (λ n rest (digits, number, e).
    let same = same-word c.args.text.now digits [] (space ∷ rest) c.in_err-digits.ensures.none
    (digits-one digits number.digits) tt refl (append-nil c.args.text.now ∙ e) in absurd (cc))

pub returns-in_err-parse_number-clause-none : goal.returns-in_err-parse_number-clause-none
returns-in_err-parse_number-clause-none c =
    rw c.from_residual-in_err-parse_number.ensures (λ n rest (digits, number, e).
    let here = c.in_ok-digits.ensures.some in
    let same = same-word digits c.in_ok-digits.digits.now (space ∷ rest) (space ∷ c.in_ok-digits.rest.now)
    (digits-one digits number.digits) here.1 refl refl (sym e ∙ here.0) in
    c.in_err-parse_number.ensures.none n (subst (λ l. IsNumber l n) same.0 number))
