-- This module exports the definitions of `arraystring_base.specs.Utf16`. Old names stand after `as`, until the next release.
pub use Rattle.arraystring_base.specs.Utf16.{IsHigh, IsLow, utf16, text_units, IsValidItem, IsValidItem as IsItem, item_units, joined_units, NoPairApart, IsReading, DecodingStop, DecodingStop as Stop, IsStopOf, IsStopOf as StopsAt, prepend_to_stop, prepend_to_stop as stop_behind, first_stop, char_or_replacement, char_or_replacement as shown, lossy_text, End, Fault, Full}
