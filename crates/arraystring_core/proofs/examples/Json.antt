-- Examples of texts as JSON. `C3 A9` is 'é'.
use Rattle.std.proofs.Common.{◌≡◌, [], ◌∷◌, refl, arith, codes, true, Some, None}
use Rattle.std.specs.Str.{chars}
use Rattle.serde_json.specs.Data.{null, boolean, number, string, array, object, unsigned, no_items, no_members}
use Rattle.arraystring_base.specs.Text.{width, utf8}
use Rattle.arraystring_core.specs.Json.{json_string, cut_text_of_value, text_of_value, IsWhyRefused, value_error_name}
use Rattle.arraystring_core.specs.declared.integration.ValueError.TheVariants.{NotText, OutOfBounds}

json_string-of_two_characters : json_string (codes "aé") ≡ string (0x61 ∷ 0xC3 ∷ 0xA9 ∷ [])
unfolding utf8
json_string-of_two_characters = refl

cut_text_of_value-cut : (cut_text_of_value (string (0x61 ∷ 0xC3 ∷ 0xA9 ∷ [])) 3 ≡ Some (codes "aé"))
    × (cut_text_of_value (string (0x61 ∷ 0xC3 ∷ 0xA9 ∷ [])) 2 ≡ Some (codes "a"))
unfolding chars width
cut_text_of_value-cut = (refl, refl)

cut_text_of_value-no_other_value : (cut_text_of_value null 3 ≡ None)
    × (cut_text_of_value (boolean true) 3 ≡ None) × (cut_text_of_value (number (unsigned 7)) 3 ≡ None)
    × (cut_text_of_value (array no_items) 3 ≡ None) × (cut_text_of_value (object no_members) 3 ≡ None)
cut_text_of_value-no_other_value = (refl, refl, refl, refl, refl)

text_of_value-of_two_characters : text_of_value (string (0x61 ∷ 0xC3 ∷ 0xA9 ∷ [])) ≡ Some (codes "aé")
unfolding chars
text_of_value-of_two_characters = refl

text_of_value-no_other_value : (text_of_value null ≡ None) × (text_of_value (boolean true) ≡ None) × (text_of_value (number (unsigned 7)) ≡ None)
    × (text_of_value (array no_items) ≡ None) × (text_of_value (object no_members) ≡ None)
text_of_value-no_other_value = (refl, refl, refl, refl, refl)

IsWhyRefused-no_text : IsWhyRefused None 3 NotText
IsWhyRefused-no_text = refl

IsWhyRefused-a_text_is_one : IsWhyRefused (Some (codes "aé")) 2 NotText → ⊥
IsWhyRefused-a_text_is_one is = cc

IsWhyRefused-one_byte_too_large : IsWhyRefused (Some (codes "aé")) 2 OutOfBounds
unfolding width
IsWhyRefused-one_byte_too_large = omega arith

IsWhyRefused-not_what_fits_exactly : IsWhyRefused (Some (codes "aé")) 3 OutOfBounds → ⊥
unfolding width
IsWhyRefused-not_what_fits_exactly is = omega (arith, is)

IsWhyRefused-no_size_without_a_text : IsWhyRefused None 3 OutOfBounds → ⊥
IsWhyRefused-no_size_without_a_text is = is

value_error_name-of_each : (value_error_name NotText ≡ codes "NotText") × (value_error_name OutOfBounds ≡ codes "OutOfBounds")
value_error_name-of_each = (refl, refl)
