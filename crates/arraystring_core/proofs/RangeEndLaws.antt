-- What is claimed of the bounds that a range's methods return.
use Rattle.std.proofs.Common.{ℕ, subst}
use Rattle.std.specs.declared.ops.Bound.{Bound}
use Rattle.arraystring_core.specs.RangeEnds.{HoldsOfReturnedBounds}

-- is claimed of its own bounds, if it has them
pub at_own_bounds : {R : Type 0} {has : R → Type 0} {start_of end_of : R → Bound ℕ} {range : R} {claim : Bound ℕ → Bound ℕ → Type 0}
    → HoldsOfReturnedBounds has start_of end_of range claim → has range → claim (start_of range) (end_of range)
at_own_bounds {start_of = start_of} {range = range} {claim = claim} of known =
    subst (λ e. claim (start_of range) e) (of.returned known).1 (subst (λ s. claim s of.end) (of.returned known).0 of.holds)
