use Rattle.std.proofs.Common.{◌∙◌}
use Rattle.arraystring_base.specs.Text.{cap}
use Rattle.arraystring_core.proofs.TakenLaws.{chars-cut}
use Rattle.arraystring_core.proofs.ConstructLaws.{fresh-room, fresh-cut}
use Rattle.arraystring_core.proofs.array_string.ArrayString.from_chars.Goals as goal

pub returns-clause-taken : goal.returns-clause-taken
returns-clause-taken g c =
    let ensured = c.push_chars_until_full.ensures in
    (ensured.0, rw (fresh-room _ (cap g.row.N) c.new-made.ensures) at ensured.1, fresh-cut _ ensured.0 (cap g.row.N) c.new-made.ensures _ ensured.3)

pub returns-clause-whole : goal.returns-clause-whole
returns-clause-whole g c = λ all gives.
    let taken = returns-clause-taken g c in
    taken.2 ∙ chars-cut g.I.IntoIterator.into_iter_gives g.I.IntoIter.Iterator.next_gives c.args.characters all gives taken.0 (cap g.row.N) taken.1
