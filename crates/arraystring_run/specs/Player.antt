-- This module exports the definitions of `arraystring_run.specs.Playing`. Old names stand after `as`, until the next release.
pub use Rattle.arraystring_run.specs.Playing.{IfBadLine, IsPlayed, IsPlayedPartlyWritten, IsPlayedPartlyWritten as IsPartPlayed, IsOutcome}
