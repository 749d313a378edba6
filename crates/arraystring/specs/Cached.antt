-- This module exports the definitions of `arraystring.specs.InnerResult`. Old names stand after `as`, until the next release.
pub use Rattle.arraystring.specs.InnerResult.{inner_result, inner_result as held}
