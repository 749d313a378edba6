use Rattle.std.proofs.Common.{arith}
use Rattle.arraystring_core.proofs.StoredLaws.{opened-within}
use Rattle.arraystring_core.proofs.SpanLemmas.{dropped}
use Rattle.arraystring_core.proofs.array_string.ArrayString.drop_front.Goals as goal

pub overflow_add-self : goal.overflow_add-self
overflow_add-self g c = omega (arith, opened-within c.self.invariant c.self.view_is _ c.requires)

pub overflow_cast-self-2 : goal.overflow_cast-self-2
overflow_cast-self-2 g c = omega (arith, opened-within c.self.invariant c.self.view_is _ c.requires)

pub overflow_sub-self : goal.overflow_sub-self
overflow_sub-self g c = opened-within c.self.invariant c.self.view_is _ c.requires

pub invariant_of-self : goal.invariant_of-self
invariant_of-self g c = (dropped c.self.invariant c.self.view_is _ c.requires).in_array

pub returns : goal.returns
returns g c = (dropped c.self.invariant c.self.view_is _ c.requires).shown
