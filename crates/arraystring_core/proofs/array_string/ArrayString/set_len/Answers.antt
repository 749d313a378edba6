use Rattle.arraystring_core.proofs.SpanLemmas.{kept}
use Rattle.arraystring_core.proofs.array_string.ArrayString.set_len.Goals as goal

pub invariant_of-self : goal.invariant_of-self
invariant_of-self g c = (kept c.self.invariant c.self.view_is _ c.requires).in_array

pub returns : goal.returns
returns g c = (kept c.self.invariant c.self.view_is _ c.requires).shown
