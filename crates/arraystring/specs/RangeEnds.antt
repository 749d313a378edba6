-- This module exports the definitions of `arraystring_core.specs.RangeEnds`. Old names stand after `as`, until the next release.
pub use Rattle.arraystring_core.specs.RangeEnds.{HoldsOfReturnedBounds, HoldsOfReturnedBounds as OfReturnedBounds, saturated_start, saturated_end}
