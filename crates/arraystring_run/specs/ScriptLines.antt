-- This module exports the definitions of `arraystring_run.specs.LinesOfScripts`. Old names stand after `as`, until the next release.
pub use Rattle.arraystring_run.specs.LinesOfScripts.{line_feed, with_newline, joined_terminated_lines, joined_terminated_lines as joined_lines, HasNoLineFeed, HasNoLineFeed as IsOneLine, HaveNoLineFeeds, HaveNoLineFeeds as AreOneLine, prepend_to_first_line, prepend_to_first_line as first_byte, lines, AreLinesOfCommands, AreLinesOfCommands as AreLinesOf, IsBadAt}
