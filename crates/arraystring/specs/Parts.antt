-- This module exports the definitions of `arraystring_core.specs.Parts`. Old names stand after `as`, until the next release.
pub use Rattle.arraystring_core.specs.Parts.{first_character, first_character as first_of, last_character, last_character as last_of, all_but_last, without_leading, without_trailing, part, checked_part, checked_part as part_in}
