-- This module exports the definitions of `arraystring_core.specs.Edits`. Old names stand after `as`, until the next release.
pub use Rattle.arraystring_core.specs.Edits.{RefusalCause, RefusalCause as Cause, Past, Room, Inside, error_of, RefusalTest, RefusalTest as Test, past_text_test, past_text_test as past_text, past_text_test as past, reversed_range_test, reversed_range_test as reversed_range, reversed_range_test as crossed, at_or_past_end_test, at_or_past_end_test as at_end, inside_character_test, inside_character_test as inside_character, inside_character_test as inside, no_room_test, no_room_test as no_room, first_cause, NoTestHolds, NoTestHolds as NoneHolds, IsFirstCause, IsFirstCause as FirstTestHolds, IsFirstCause as FirstHolds, first_character, first_character as first_of, last_character, last_character as last_of, all_but_last, without_leading, without_trailing, part, checked_part, checked_part as part_in, Edit, ok_unless_cause, ok_unless_cause as ok_unless, result_of, text_after_edit, text_after_edit as text_of, Makes, map_err_from_out_of_bounds, map_err_from_out_of_bounds as from_out_of_bounds, map_err_from_fmt, map_err_from_fmt as from_fmt_error, map_err_from_utf8, map_err_from_utf8 as from_utf8_error, string_result_as_text, string_result_as_text as with_text, addition, addition_of_cut, popping, insertion, insertion_of_cut, truncation, trimming_matches, trimming_matches as trimming, removal, clearing, split, uppercase, lowercase, draining, replacement}
pub use Rattle.arraystring_core.specs.Edits.{equals_space, equals_space as is_space, in_ranges}
unfoldable pub use Rattle.arraystring_core.specs.Edits.{is_white_space}
