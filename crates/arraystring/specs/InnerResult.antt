-- Contracts use this definition for the result of a call that makes a `CacheString`: a constructor, or `split_off`.
use Rattle.std.specs.Prelude.{Result, Ok, Err}
use Rattle.arraystring_core.specs.Stored.{StringView}
use Rattle.arraystring.specs.declared.cache_string.CacheString.{CacheString}

-- the result of a call that makes a `CacheString`, with the string inside in place of the `CacheString`
abbrev pub inner_result : {E : Type 0} → Result CacheString E → Result StringView E
inner_result (Ok made) = Ok made.0
inner_result (Err e) = Err e
