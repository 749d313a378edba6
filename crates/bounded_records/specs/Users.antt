-- This module exports the definitions of `bounded_records.specs.UserTexts`. Old names stand after `as`, until the next release.
pub use Rattle.bounded_records.specs.UserTexts.{texts, names_of, entry_texts, entry_texts as by_text, AreUnderTheirNames}
