use Rattle.std.proofs.Common.{◌≡◌, Ok, chars, refl, rules}
use Rattle.arraystring_base.specs.Text.{cap}
use Rattle.arraystring_base.proofs.TextLaws.{size-borrowed}
use Rattle.arraystring_core.specs.Edits.{replacement, first_cause, ok_unless_cause}
use Rattle.arraystring_core.proofs.CauseLemmas.{allowed, no_cause}
use Rattle.arraystring_core.proofs.EditLaws.{makes}
use Rattle.arraystring_core.proofs.array_string.ArrayString.replace_between.Goals as goal

pub returns-in_err-check_replacement-clause-edit : goal.returns-in_err-check_replacement-clause-edit
returns-in_err-check_replacement-clause-edit g c = rw (size-borrowed c.utf8.with) (search rules)

pub splice-requires : goal.splice-requires
splice-requires g c =
    let is = allowed _ _ _ _ _ c.in_ok-check_replacement.ensures in
    (search rules, (is.order, (is.starts, (is.ends, (rw (size-borrowed c.utf8.with) is.room, c.requires)))))

pub returns-clause-edit : goal.returns-clause-edit
returns-clause-edit g c =
    let row = replacement c.args.self.now.text c.args.start c.args.end (chars c.args.with.now) (cap g.row.N) in
    let is : Ok (tt {0}) ≡ ok_unless_cause (first_cause row.tests) (tt {0}) = rw (size-borrowed c.utf8.with) c.in_ok-check_replacement.ensures in
    makes row _ _ _ (no_cause row.tests is) refl c.splice.ensures.replaced.text
