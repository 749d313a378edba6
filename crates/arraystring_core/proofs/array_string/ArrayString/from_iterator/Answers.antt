use Rattle.std.proofs.Common.{◌∙◌}
use Rattle.arraystring_base.specs.Text.{cap}
use Rattle.arraystring_core.specs.Taken.{joined_pieces}
use Rattle.arraystring_core.proofs.TakenLaws.{pieces-cut}
use Rattle.arraystring_core.proofs.ConstructLaws.{fresh-room, fresh-cut}
use Rattle.arraystring_core.proofs.array_string.ArrayString.from_iterator.Goals as goal

pub returns-clause-taken : goal.returns-clause-taken
returns-clause-taken g c =
    let ensured = c.push_strs_until_full.ensures in
    let n = cap g.row.N in
    (ensured.0, rw (fresh-room _ n c.new-made.ensures) at ensured.1, fresh-cut _ (joined_pieces ensured.0) n c.new-made.ensures _ ensured.3)

pub returns-clause-whole : goal.returns-clause-whole
returns-clause-whole g c = λ all gives.
    let ensured = c.push_strs_until_full.ensures in
    let n = cap g.row.N in
    fresh-cut _ (joined_pieces ensured.0) n c.new-made.ensures _ ensured.3
    ∙ pieces-cut g.I.IntoIterator.into_iter_gives g.I.IntoIter.Iterator.next_gives c.args.pieces all gives ensured.0 n
    (rw (fresh-room _ n c.new-made.ensures) at ensured.1)
