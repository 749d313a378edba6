use Rattle.std.proofs.Common.{[], refl}
use Rattle.arraystring_base.proofs.BoundaryLaws.{boundary-is, back-start}
use Rattle.arraystring_core.proofs.drain.Drain.new.Goals as goal

pub invariant_of-result : goal.invariant_of-result
invariant_of-result g c = record { in_array = c.requires; at = boundary-is [] _ 0 refl }

pub returns : goal.returns
returns g c = back-start _
