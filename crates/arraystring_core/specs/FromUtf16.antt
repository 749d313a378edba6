-- What a constructor from UTF-16 returns depends on the stop at which its reading ends.
use Rattle.std.specs.Prelude.{◌≡◌, Option, Some, None, List, ℕ, Result, IsOkAnd, IsErrAnd, IsErr}
use Rattle.arraystring_base.specs.Utf16.{DecodingStop, End, Fault, Full}
use Rattle.arraystring_base.specs.declared.error.Error.{Error}
use Rattle.arraystring_base.specs.declared.error.Error.TheVariants as error
use Rattle.arraystring_base.specs.declared.error.Utf16.{Utf16}
use Rattle.arraystring_base.specs.declared.utf16.Unit16.{Unit16}
use Rattle.arraystring_base.specs.declared.utf16.Unit16.TheVariants.{Char, Lone}
use Rattle.arraystring_core.specs.Stored.{StringView}

-- the result of `try_from_utf16` at this stop: the whole text, or the error of what comes first, which is a lone surrogate or a character
-- that does not fit
abbrev pub GivesWholeOrError : DecodingStop → Result StringView Error → Type 0
GivesWholeOrError (End prefix) result = IsOkAnd result (λ string. string.text ≡ prefix)
GivesWholeOrError (Fault prefix) result = IsErrAnd result (λ e. e ≡ error.Utf16)
GivesWholeOrError (Full prefix) result = IsErrAnd result (λ e. e ≡ error.OutOfBounds)

-- the result of `from_utf16` at this stop: the prefix that fits, or an error if a lone surrogate comes right behind it
abbrev pub GivesPrefixOrFault : DecodingStop → Result StringView Utf16 → Type 0
GivesPrefixOrFault (End prefix) result = IsOkAnd result (λ string. string.text ≡ prefix)
GivesPrefixOrFault (Fault prefix) result = IsErr result
GivesPrefixOrFault (Full prefix) result = IsOkAnd result (λ string. string.text ≡ prefix)

-- the stop behind a prefix. The next item decides its case: there is none (`End`), it is a lone surrogate (`Fault`), or a character that
-- did not fit (`Full`)
abbrev pub stop_before_item : Option Unit16 → List ℕ → DecodingStop
stop_before_item None prefix = End prefix
stop_before_item (Some (Lone unit)) prefix = Fault prefix
stop_before_item (Some (Char c)) prefix = Full prefix
