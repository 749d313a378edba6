use Rattle.std.proofs.Common.{◌≡◌, Ok, chars, arith, refl, rules}
use Rattle.arraystring_base.specs.Text.{cap}
use Rattle.arraystring_base.proofs.TextLaws.{size-borrowed, empty-size}
use Rattle.arraystring_core.specs.Edits.{insertion, first_cause, ok_unless_cause}
use Rattle.arraystring_core.proofs.CauseLemmas.{takes_in, no_cause}
use Rattle.arraystring_core.proofs.EditLaws.{makes}
use Rattle.arraystring_core.proofs.array_string.ArrayString.try_insert_str_counted.Goals as goal

pub returns-in_err-check_insertion-clause-edit : goal.returns-in_err-check_insertion-clause-edit
returns-in_err-check_insertion-clause-edit g c = rw (size-borrowed c.utf8.string) (search rules)

pub splice-requires : goal.splice-requires
splice-requires g c =
    let is = takes_in _ _ _ _ c.in_ok-check_insertion.ensures in
    (search rules, (omega arith, (is.1, (is.1, (omega (arith, size-borrowed c.utf8.string), c.requires.moves)))))

pub returns-clause-edit : goal.returns-clause-edit
returns-clause-edit g c =
    let row = insertion c.args.self.now.text c.args.index (chars c.args.string.now) (cap g.row.N) in
    let is : Ok (tt {0}) ≡ ok_unless_cause (first_cause row.tests) (tt {0}) = rw (size-borrowed c.utf8.string) c.in_ok-check_insertion.ensures in
    makes row _ _ _ (no_cause row.tests is) refl c.splice.ensures.replaced.text

pub returns-clause-least : goal.returns-clause-least
returns-clause-least g c some =
    c.splice.ensures.replaced.least (λ e. some (empty-size (omega arith)))
