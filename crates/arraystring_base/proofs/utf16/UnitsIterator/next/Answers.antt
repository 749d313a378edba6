use Rattle.std.proofs.Common.{◌∷◌, sym, ap, ◌∙◌, arith, length}
use Rattle.arraystring_base.specs.declared.utf16.Unit16.TheVariants.{Char}
use Rattle.arraystring_base.specs.Reading.{reading}
use Rattle.arraystring_base.proofs.ReadingLaws.{item_of_unpaired_unit-character, item_of_unpaired_unit-lone, reading-pair, reading-single}
use Rattle.arraystring_base.proofs.utf16.UnitsIterator.next.Goals as goal

-- a scalar value is no surrogate, so no pair begins with it
pub returns-in-Some-clause-steps : goal.returns-in-Some-clause-steps
returns-in-Some-clause-steps c =
    let first = c.in_ok-first.first.now in
    let left = c.in_ok-first.rest.now in
    sym c.self.view_is ∙ ap reading c.in_ok-first.ensures.cases.0
    ∙ reading-single first left (λ low more e high lower. absurd (grind arith))
    ∙ ap (λ item. item ∷ reading left) (item_of_unpaired_unit-character first (grind arith) ∙ ap Char (sym c.in-Some.ensures.value.1))

pub returns-in-Some-clause-goes : goal.returns-in-Some-clause-goes
returns-in-Some-clause-goes c =
    record { on = λ _. (tt, tt, omega (arith, ap length (returns-in-Some-clause-steps c))); keeps = tt; rests = λ _. tt }

pub returns-in-Some-pair_char_and_rest-clause-steps : goal.returns-in-Some-pair_char_and_rest-clause-steps
returns-in-Some-pair_char_and_rest-clause-steps c =
    let first = c.in_ok-first.first.now in
    let ensured = c.in-Some-pair_char_and_rest.ensures.some in
    let left = reading c.in-Some-pair_char_and_rest.rest.now in
    let units = c.in_ok-first.ensures.cases.0 ∙ ap (λ l. first ∷ l) ensured.4 in
    sym c.self.view_is ∙ ap reading units ∙ reading-pair first ensured.0 c.in-Some-pair_char_and_rest.rest.now ensured.1 ensured.2
    ∙ ap (λ ch. Char ch ∷ left) (sym ensured.3)

pub returns-in-Some-pair_char_and_rest-clause-goes : goal.returns-in-Some-pair_char_and_rest-clause-goes
returns-in-Some-pair_char_and_rest-clause-goes c =
    record { on = λ _. (tt, tt, omega (arith, ap length (returns-in-Some-pair_char_and_rest-clause-steps c))); keeps = tt; rests = λ _. tt }

-- a unit that is no scalar value is a surrogate
pub returns-clause-steps : goal.returns-clause-steps
returns-clause-steps c =
    let first = c.in_ok-first.first.now in
    let left = c.in_ok-first.rest.now in
    sym c.self.view_is ∙ ap reading c.in_ok-first.ensures.cases.0 ∙ reading-single first left c.in_default-pair_char_and_rest.ensures.none
    ∙ ap (λ item. item ∷ reading left) (item_of_unpaired_unit-lone first (grind arith) (grind arith))

pub returns-clause-goes : goal.returns-clause-goes
returns-clause-goes c =
    record { on = λ _. (tt, tt, omega (arith, ap length (returns-clause-steps c))); keeps = tt; rests = λ _. tt }
