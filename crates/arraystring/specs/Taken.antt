-- This module exports the definitions of `arraystring_core.specs.Taken`. Old names stand after `as`, until the next release.
pub use Rattle.arraystring_core.specs.Taken.{joined_texts, joined_texts as joined, piece_text, joined_pieces, OnlyLastDoesNotFit, OnlyLastDoesNotFit as IsFirstPast, TakesAll, Takes, Fits, Gives}
