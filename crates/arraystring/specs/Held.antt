-- This module exports the definitions of `arraystring_core.specs.Held`. Old names stand after `as`, until the next release.
pub use Rattle.arraystring_core.specs.Held.{NoTestHolds, NoTestHolds as NoneHolds, IsFirstCause, IsFirstCause as FirstTestHolds, IsFirstCause as FirstHolds}
