-- This module exports the definitions of `arraystring_core.specs.Counts`. Old names stand after `as`, until the next release.
pub use Rattle.arraystring_core.specs.Counts.{StepsView, StepsView as Counts}
