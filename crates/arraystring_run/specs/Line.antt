-- This module exports the definitions of `arraystring_run.specs.CommandLines`. Old names stand after `as`, until the next release.
pub use Rattle.arraystring_run.specs.CommandLines.{Argument, Number, Character, Text, word, arguments, AreDigits, number_continued_by, IsNumber, SpellsArgument, space, SpellsArguments, IsLineOf, spelling_of_argument, spelling_of_arguments, line_of, EachArgumentIsValid, EachArgumentIsValid as AreArguments, HasNoSpace, IsNumberBeforeSpace}
