-- Examples of texts in arrays. `C3 A9` is 'é', and `80` alone is no UTF-8.
use Rattle.std.proofs.Common.{◌≡◌, ℕ, List, [], ◌∷◌, refl, arith, codes}
use Rattle.std.proofs.Math.Utf8.{encode}
use Rattle.std.specs.Str.{chars, is_utf8}
use Rattle.std.proofs.lemmas.Str.{IsUtf8-from_is_utf8, is_utf8-from_IsUtf8, IsUtf8-had}
use Rattle.arraystring_base.specs.Text.{width, utf8}
use Rattle.arraystring_core.specs.Layout.{string_in, MeetsStringInvariant, MeetsDrainInvariant, start_of, array_of}

string_in-from_offset_1 : string_in (codes "xab.") 1 2 ≡ record { text = codes "ab"; spare = 1 ∷ codes "x." }
unfolding chars
string_in-from_offset_1 = refl

string_in-of_two_bytes : string_in (0xC3 ∷ 0xA9 ∷ 0x00 ∷ []) 0 2 ≡ record { text = codes "é"; spare = 0 ∷ 0x00 ∷ [] }
unfolding chars
string_in-of_two_bytes = refl

MeetsStringInvariant-up_to_the_capacity : MeetsStringInvariant 4 (0x78 ∷ 0x61 ∷ 0xC3 ∷ 0xA9 ∷ []) 1 3
unfolding chars is_utf8 encode
MeetsStringInvariant-up_to_the_capacity = record { within = omega arith; length = refl; utf8 = ∣ IsUtf8-from_is_utf8 (0x61 ∷ 0xC3 ∷ 0xA9 ∷ []) refl ∣₁ }

MeetsStringInvariant-not_past_the_capacity : MeetsStringInvariant 4 (codes "xab.") 3 2 → ⊥
MeetsStringInvariant-not_past_the_capacity is = omega (arith, is.within)

MeetsStringInvariant-not_past_255 : (array : List ℕ) → MeetsStringInvariant 300 array 0 256 → ⊥
MeetsStringInvariant-not_past_255 array is = omega (arith, is.within)

MeetsStringInvariant-no_shorter_array : MeetsStringInvariant 5 (codes "xab.") 1 2 → ⊥
MeetsStringInvariant-no_shorter_array is = omega (arith, is.length)

MeetsStringInvariant-no_other_bytes : MeetsStringInvariant 1 (0x80 ∷ []) 0 1 → ⊥
unfolding chars is_utf8
MeetsStringInvariant-no_other_bytes is = cc (is_utf8-from_IsUtf8 (0x80 ∷ []) (IsUtf8-had (0x80 ∷ []) is.utf8))

MeetsDrainInvariant-at_a_boundary : MeetsDrainInvariant 4 (0x78 ∷ 0x61 ∷ 0xC3 ∷ 0xA9 ∷ []) 1 3 1
unfolding chars width
MeetsDrainInvariant-at_a_boundary = record { in_array = MeetsStringInvariant-up_to_the_capacity; at = refl }

MeetsDrainInvariant-not_inside_a_character : MeetsDrainInvariant 4 (0x78 ∷ 0x61 ∷ 0xC3 ∷ 0xA9 ∷ []) 1 3 2 → ⊥
unfolding chars width
MeetsDrainInvariant-not_inside_a_character is = cc (is.at)

MeetsDrainInvariant-not_past_the_capacity : MeetsDrainInvariant 4 (codes "xab.") 3 2 0 → ⊥
MeetsDrainInvariant-not_past_the_capacity is = MeetsStringInvariant-not_past_the_capacity is.in_array

start_of-the_first_number : start_of (record { text = codes "ab"; spare = 1 ∷ codes "x." }) ≡ 1
start_of-the_first_number = refl

array_of-text_and_spare : array_of (record { text = codes "aé"; spare = 1 ∷ codes "x." }) ≡ 0x78 ∷ 0x61 ∷ 0xC3 ∷ 0xA9 ∷ 0x2E ∷ []
unfolding utf8
array_of-text_and_spare = refl
