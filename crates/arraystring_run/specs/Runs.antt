-- This module exports the definitions of `arraystring_run.specs.Effects`. Old names stand after `as`, until the next release.
pub use Rattle.arraystring_run.specs.Effects.{ReplyView, Done, Char, NoChar, Text, NoText, Number, Refused, view_of_reply, view_of_reply as view_of, Effect, make_effect, reply_of_result, reply_of_result as reply_of, apply, apply_unit, char_reply, text_reply, without, end_through, effect, is_room, is_refused_for_room, is_accepted, adds_only_part, is_tight, RepliesAndText, RepliesAndText as RunResult, run_result, run_result as after, first_tight_from, first_some, NoneTight, IsFirstTight}
