-- These definitions say which JSON value a text becomes, and which text is read from a JSON value.
use Rattle.std.specs.Prelude.{◌≡◌, ℕ, ◌<◌, List, Option, None, IsSomeAnd, option_map, chars, codes}
use Rattle.serde_json.specs.Data.{Data, string}
use Rattle.serde_json.specs.Find.{as_str}
use Rattle.arraystring_base.specs.Text.{bytes, cut, size}
use Rattle.arraystring_core.specs.declared.integration.ValueError.{ValueError}
use Rattle.arraystring_core.specs.declared.integration.ValueError.TheVariants.{NotText, OutOfBounds}

-- the JSON string whose text is t (it is read back as t: `json_reads_back`, `json_whole_and_cut`)
abbrev pub json_string : List ℕ → Data
json_string t = string (bytes t)

-- the text of a JSON value, cut to n bytes; `None` if the value is no string
abbrev pub cut_text_of_value : Data → ℕ → Option (List ℕ)
cut_text_of_value value n = option_map (λ given. cut (chars given) n) (as_str value)

-- the text of a JSON value, all of it; `None` if the value is no string
abbrev pub text_of_value : Data → Option (List ℕ)
text_of_value value = option_map chars (as_str value)

-- the reason why `given`, the text of a JSON value, is not taken whole into n bytes: there is no text, or it is larger
abbrev pub IsWhyRefused : Option (List ℕ) → ℕ → ValueError → Type 0
IsWhyRefused given n NotText = given ≡ None
IsWhyRefused given n OutOfBounds = IsSomeAnd given (λ t. n < size t)

-- the name under which a `ValueError` is printed
abbrev pub value_error_name : ValueError → List ℕ
value_error_name NotText = codes "NotText"
value_error_name OutOfBounds = codes "OutOfBounds"
