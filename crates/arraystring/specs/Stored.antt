-- This module exports the definitions of `arraystring_core.specs.Stored`. Old names stand after `as`, until the next release.
pub use Rattle.arraystring_core.specs.Stored.{StringView, StringView as Stored, view_with_empty_spare, view_with_empty_spare as view_with_text, view_with_empty_spare as string_of}
