use Rattle.std.proofs.Common.{◌++◌}
use Rattle.bounded_records.specs.RecordBytes.{IsRecord}
use Rattle.bounded_records.proofs.RecordLemmas.{one_user}
use Rattle.bounded_records.proofs.record.encode.Goals as goal

pub returns-clause-only : goal.returns-clause-only
returns-clause-only c username role other =
    let user = c.args.user.now in
    let is : IsRecord (c.fill_zeroed_field.new.field ++ c.fill_zeroed_field-2.new.field) user.username.text user.role.text = record {
      username_text = c.fill_zeroed_field.ensures.text;
      role_text = c.fill_zeroed_field-2.ensures.text;
      username_fits = c.fill_zeroed_field.ensures.fits;
      role_fits = c.fill_zeroed_field-2.ensures.fits;
      same = λ i. c.fill_zeroed_field.ensures.field i ++ c.fill_zeroed_field-2.ensures.field i;
    } in
    let both = one_user _ user.username.text user.role.text username role is other in
    λ i. (both.0 i, both.1 i)
