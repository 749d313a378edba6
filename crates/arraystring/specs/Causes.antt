-- This module exports the definitions of `arraystring_core.specs.Causes`. Old names stand after `as`, until the next release.
pub use Rattle.arraystring_core.specs.Causes.{RefusalCause, RefusalCause as Cause, Past, Room, Inside, error_of, RefusalTest, RefusalTest as Test, past_text_test, past_text_test as past_text, reversed_range_test, reversed_range_test as reversed_range, at_or_past_end_test, at_or_past_end_test as at_end, inside_character_test, inside_character_test as inside_character, no_room_test, no_room_test as no_room, first_cause}
