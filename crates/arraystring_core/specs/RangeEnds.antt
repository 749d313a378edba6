-- These definitions say at which indices of a text a range over `u8` starts and ends, by the bounds that its methods return.
use Rattle.std.specs.Prelude.{◌≡◌, ℕ, ◌+◌, min}
use Rattle.std.specs.declared.ops.Bound.{Bound}
use Rattle.std.specs.declared.ops.Bound.TheVariants.{Included, Excluded, Unbounded}

-- `claim` holds of the two bounds that the methods of a range return. They are `start_of` and `end_of` of the range if `has` holds of it,
-- and else unknown (as for an inclusive range that was iterated to its end, or a range type whose contract names no bounds)
pub record HoldsOfReturnedBounds {R : Type 0} (has : R → Type 0) (start_of end_of : R → Bound ℕ) (range : R)
    (claim : Bound ℕ → Bound ℕ → Type 0) : Type 0 where
  pub start : Bound ℕ
  pub end : Bound ℕ
  pub returned : has range → (start ≡ start_of range) × (end ≡ end_of range)
  pub holds : claim start end

-- the index at which a range starts for `drain` and `replace_range`: an excluded start counts as the next index, but as 255 at most. (The
-- contracts of the other calls use std's `start_index` and `end_index`, which have no such limit)
abbrev pub saturated_start : Bound ℕ → ℕ
saturated_start (Included a) = a
saturated_start (Excluded a) = min (a + 1) 255
saturated_start Unbounded = 0

-- the end as `drain` and `replace_range` read it in a text of `len` bytes: an included end counts as the next index, but as 255 at most
abbrev pub saturated_end : Bound ℕ → ℕ → ℕ
saturated_end (Included b) len = min (b + 1) 255
saturated_end (Excluded b) len = b
saturated_end Unbounded len = len
