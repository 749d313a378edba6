use Rattle.std.proofs.Common.{arith, Ok}
use Rattle.arraystring_base.specs.Text.{cap}
use Rattle.arraystring_core.specs.Edits.{map_err_from_out_of_bounds}
use Rattle.arraystring_core.specs.Taken.{joined_pieces}
use Rattle.arraystring_core.proofs.TakenLaws.{pieces-made}
use Rattle.arraystring_core.proofs.ConstructLaws.{refused-made, fresh-room, fresh-whole}
use Rattle.arraystring_core.proofs.array_string.ArrayString.try_from_iterator.Goals as goal

pub returns-in_err-push_strs_until_full : goal.returns-in_err-push_strs_until_full
returns-in_err-push_strs_until_full g c =
    let ensured = c.in_err-push_strs_until_full.ensures in
    let n = cap g.row.N in
    let room = fresh-room _ n c.new-made.ensures in
    let takes = rw room at ensured.1 in
    let made = refused-made c.from_residual.result (joined_pieces ensured.0) n c.from_residual.ensures.0
    (omega (arith, ensured.2)) in
    record {
      taken = (ensured.0, takes, made);
      whole = λ all gives.
          pieces-made g.I.IntoIterator.into_iter_gives g.I.IntoIter.Iterator.next_gives c.args.pieces all gives ensured.0 n takes (map_err_from_out_of_bounds c.from_residual.result) made;
    }

pub returns : goal.returns
returns g c =
    let ensured = c.in_ok-push_strs_until_full.ensures in
    let n = cap g.row.N in
    let takes = rw (fresh-room _ n c.new-made.ensures) at ensured.1 in
    let made = fresh-whole _ (joined_pieces ensured.0) n c.new-made.ensures _ ensured.2 ensured.3 in
    record {
      taken = (ensured.0, takes, made);
      whole = λ all gives.
          pieces-made g.I.IntoIterator.into_iter_gives g.I.IntoIter.Iterator.next_gives c.args.pieces all gives ensured.0 n takes
          (Ok c.push_strs_until_full.new.self) made;
    }
