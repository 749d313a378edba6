use Rattle.std.proofs.Common.{◌∙◌, sym, ap, refl, arith, rules}
use Rattle.arraystring_core.specs.Edits.{popping, last_character, all_but_last}
use Rattle.arraystring_core.proofs.EditLaws.{makes, last_character-push, all_but_last-push}
use Rattle.arraystring_core.proofs.EndLemmas.{last-parts, last-size, last-boundary, last-front}
use Rattle.arraystring_core.proofs.array_string.ArrayString.pop_counted.Goals as goal

pub returns-in_err-start-clause-edit : goal.returns-in_err-start-clause-edit
returns-in_err-start-clause-edit g c =
    let text = c.args.self.now.text in
    let none = sym c.as_str.ensures.chars ∙ c.in_err-start.ensures.none in
    makes (popping text) text _ text refl (c.from_residual.ensures ∙ sym (ap last_character none)) (none ∙ sym (ap all_but_last none))

pub overflow_cast-start : goal.overflow_cast-start
overflow_cast-start g c =
    omega (arith, last-size c.as_str.ensures.chars c.in_ok-start.ensures.some)

pub set_len-requires : goal.set_len-requires
set_len-requires g c = (search rules, last-boundary c.as_str.ensures.chars c.in_ok-start.ensures.some)

pub returns-clause-edit : goal.returns-clause-edit
returns-clause-edit g c =
    let text = c.args.self.now.text in
    let borrowed = c.as_str.ensures.chars in
    let found = c.in_ok-start.ensures.some in
    let parts = last-parts borrowed found in
    makes (popping text) text _ _ refl (sym (ap last_character parts ∙ last_character-push found.0 _))
    (last-front borrowed found c.set_len.ensures ∙ sym (ap all_but_last parts ∙ all_but_last-push found.0 _))
