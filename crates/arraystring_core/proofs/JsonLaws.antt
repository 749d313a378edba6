-- Laws of texts as JSON values.
use Rattle.std.proofs.Common.{◌≡◌, ℕ, ◌≤◌, List, Option, Some, None, option_map, refl, ap, ◌∙◌}
use Rattle.std.specs.Prelude.{chars}
use Rattle.serde_json.specs.Data.{Data}
use Rattle.serde_json.specs.Find.{as_str}
use Rattle.arraystring_base.specs.Text.{IsText, size, cut}
use Rattle.arraystring_base.proofs.TextLaws.{bytes-utf8, chars-bytes}
use Rattle.arraystring_base.proofs.CutLaws.{cut-all}
use Rattle.arraystring_core.specs.Json.{json_string, cut_text_of_value, text_of_value}

-- a text is read back whole
pub reads_whole : (t : List ℕ) → IsText t → text_of_value (json_string t) ≡ Some t
reads_whole t is = ap Some (chars-bytes (bytes-utf8 t is) refl)

-- what is read within n bytes is the whole text, cut
cut-given : (given : Option (List ℕ)) (n : ℕ) → option_map (λ g. cut (chars g) n) given ≡ option_map (λ t. cut t n) (option_map chars given)
cut-given None n = refl
cut-given (Some g) n = refl

pub cut-whole : (value : Data) (n : ℕ) → cut_text_of_value value n ≡ option_map (λ t. cut t n) (text_of_value value)
cut-whole value n = cut-given (as_str value) n

-- and so a text that fits is read within them as it is
pub whole-fits : (value : Data) (t : List ℕ) (n : ℕ) → text_of_value value ≡ Some t → size t ≤ n → cut_text_of_value value n ≡ Some t
whole-fits value t n whole fits = cut-whole value n ∙ ap (option_map (λ t. cut t n)) whole ∙ ap Some (cut-all fits)

pub reads_back : (t : List ℕ) (n : ℕ) → IsText t → size t ≤ n → cut_text_of_value (json_string t) n ≡ Some t
reads_back t n is fits = whole-fits (json_string t) t n (reads_whole t is) fits

pub ruleset whole = (reads_whole, cut-whole, whole-fits)
