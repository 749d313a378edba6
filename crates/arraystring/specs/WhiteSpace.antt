-- This module exports the definitions of `arraystring_core.specs.WhiteSpace`. Old names stand after `as`, until the next release.
pub use Rattle.arraystring_core.specs.WhiteSpace.{equals_space, equals_space as is_space, in_ranges}
unfoldable pub use Rattle.arraystring_core.specs.WhiteSpace.{is_white_space}
