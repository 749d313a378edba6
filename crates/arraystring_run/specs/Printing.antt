-- This module exports the definitions of `arraystring_run.specs.ReplyLines`. Old names stand after `as`, until the next release.
pub use Rattle.arraystring_run.specs.ReplyLines.{reply_line, reply_line as printed, replies_printed, replies_and_final_line, replies_and_final_line as all_printed, run_printed}
