-- Examples of the words of texts. The check computes each. `codes "aé"` is the list of the characters of "aé"; 'a' has one byte,
-- 'é' (U+E9) two, '€' (U+20AC) three, and '🤔' (U+1F914) four. What must not hold is a function to `⊥`.
use Rattle.std.proofs.Common.{◌≡◌, ◌≤◌, ℕ, List, [], ◌∷◌, refl, arith, codes, true, false, inl, inr, subst}
use Rattle.std.proofs.lemmas.Bool.Decides.{nat_tests}
use Rattle.arraystring_base.specs.Text.{IsScalarValue, IsText, width, continuation, utf8, size, bytes, IsWellFormed, cap, cut, front, back, boundary, IsPrefix, IsLongestFitting, IsBefore}
use Rattle.arraystring_base.proofs.TextLaws.{bytes_same}

IsScalarValue-ends_of_both_ranges : IsScalarValue 0x00 × IsScalarValue 0xD7FF × IsScalarValue 0xE000 × IsScalarValue 0x10_FFFF
IsScalarValue-ends_of_both_ranges = (inl (omega arith), inl (omega arith), inr (omega arith), inr (omega arith))

IsScalarValue-first_surrogate_is_none : IsScalarValue 0xD800 → ⊥
IsScalarValue-first_surrogate_is_none is = omega arith

IsScalarValue-last_surrogate_is_none : IsScalarValue 0xDFFF → ⊥
IsScalarValue-last_surrogate_is_none is = omega arith

IsScalarValue-past_the_last_is_none : IsScalarValue 0x11_0000 → ⊥
IsScalarValue-past_the_last_is_none is = omega arith

IsText-empty : IsText []
IsText-empty = tt

IsText-two_characters : IsText (codes "aé")
IsText-two_characters = (inl (omega arith), (inl (omega arith), tt))

IsText-no_surrogate_at_the_end : IsText (0x61 ∷ 0xD800 ∷ []) → ⊥
IsText-no_surrogate_at_the_end is = IsScalarValue-first_surrogate_is_none is.1.0

IsText-no_surrogate_at_the_start : IsText (0xD800 ∷ 0x61 ∷ []) → ⊥
IsText-no_surrogate_at_the_start is = IsScalarValue-first_surrogate_is_none is.0

width-of_one : (width 0x00 ≡ 1) × (width 0x7F ≡ 1)
unfolding width
width-of_one = (refl, refl)

width-of_two : (width 0x80 ≡ 2) × (width 0x7FF ≡ 2)
unfolding width
width-of_two = (refl, refl)

width-of_three : (width 0x800 ≡ 3) × (width 0xD7FF ≡ 3) × (width 0xE000 ≡ 3) × (width 0xFFFF ≡ 3)
unfolding width
width-of_three = (refl, refl, refl, refl)

width-of_four : (width 0x1_0000 ≡ 4) × (width 0x10_FFFF ≡ 4)
unfolding width
width-of_four = (refl, refl)

continuation-of_six_bits : (continuation 0 ≡ 0x80) × (continuation 63 ≡ 0xBF) × (continuation 64 ≡ 0x80)
continuation-of_six_bits = (refl, refl, refl)

utf8-of_one : (utf8 0x00 ≡ 0x00 ∷ []) × (utf8 0x7F ≡ 0x7F ∷ [])
unfolding utf8
utf8-of_one = (refl, refl)

utf8-of_two : (utf8 0x80 ≡ 0xC2 ∷ 0x80 ∷ []) × (utf8 0x7FF ≡ 0xDF ∷ 0xBF ∷ [])
unfolding utf8
utf8-of_two = (refl, refl)

utf8-of_three : (utf8 0x800 ≡ 0xE0 ∷ 0xA0 ∷ 0x80 ∷ []) × (utf8 0xD7FF ≡ 0xED ∷ 0x9F ∷ 0xBF ∷ [])
    × (utf8 0xE000 ≡ 0xEE ∷ 0x80 ∷ 0x80 ∷ []) × (utf8 0xFFFF ≡ 0xEF ∷ 0xBF ∷ 0xBF ∷ [])
unfolding utf8
utf8-of_three = (refl, refl, refl, refl)

utf8-of_four : (utf8 0x1_0000 ≡ 0xF0 ∷ 0x90 ∷ 0x80 ∷ 0x80 ∷ []) × (utf8 0x1_D11E ≡ 0xF0 ∷ 0x9D ∷ 0x84 ∷ 0x9E ∷ [])
    × (utf8 0x10_FFFF ≡ 0xF4 ∷ 0x8F ∷ 0xBF ∷ 0xBF ∷ [])
unfolding utf8
utf8-of_four = (refl, refl, refl)

size-of_each_width : (size [] ≡ 0) × (size (codes "aé€🤔") ≡ 10)
unfolding width
size-of_each_width = (refl, refl)

bytes-of_two_characters : (bytes [] ≡ []) × (bytes (codes "aé") ≡ 0x61 ∷ 0xC3 ∷ 0xA9 ∷ [])
unfolding utf8
bytes-of_two_characters = (refl, refl)

IsWellFormed-of_a_text : IsWellFormed (0x61 ∷ 0xC3 ∷ 0xA9 ∷ [])
IsWellFormed-of_a_text = (codes "aé", (IsText-two_characters, bytes-of_two_characters.1))

-- `ED A0 80` would be the surrogate U+D800
IsWellFormed-no_surrogate : IsWellFormed (0xED ∷ 0xA0 ∷ 0x80 ∷ []) → ⊥
unfolding utf8
IsWellFormed-no_surrogate (t, (is, e)) = IsScalarValue-first_surrogate_is_none (subst IsText (bytes_same {b = 0xD800 ∷ []} e) is).0

-- `C3` begins a character of two bytes
IsWellFormed-no_part_of_a_character : IsWellFormed (0xC3 ∷ []) → ⊥
unfolding utf8
IsWellFormed-no_part_of_a_character ([], (is, e)) = cc
IsWellFormed-no_part_of_a_character (c ∷ cs, (is, e)) = grind (arith, nat_tests)

cap-at_most_255 : (cap 0 ≡ 0) × (cap 254 ≡ 254) × (cap 255 ≡ 255) × (cap 256 ≡ 255) × (cap 300 ≡ 255)
cap-at_most_255 = (refl, refl, refl, refl, refl)

cut-before_a_character : cut (codes "aé") 1 ≡ codes "a"
unfolding width
cut-before_a_character = refl

cut-inside_a_character : cut (codes "aé") 2 ≡ codes "a"
unfolding width
cut-inside_a_character = refl

cut-behind_a_character : cut (codes "aé") 3 ≡ codes "aé"
unfolding width
cut-behind_a_character = refl

cut-of_wide_characters : cut (codes "🤔🤔🤔") 9 ≡ codes "🤔🤔"
unfolding width
cut-of_wide_characters = refl

cut-past_the_text : cut (codes "aé") 4 ≡ codes "aé"
unfolding width
cut-past_the_text = refl

cut-to_nothing : (cut (codes "aé") 0 ≡ []) × (cut [] 1 ≡ [])
unfolding width
cut-to_nothing = (refl, refl)

-- 'a' would fit, but what is before it does not
cut-takes_no_later_character : cut (codes "🤔a") 3 ≡ []
unfolding width
cut-takes_no_later_character = refl

front-at_each_index : (front (codes "aé") 0 ≡ []) × (front (codes "aé") 1 ≡ codes "a") × (front (codes "aé") 2 ≡ codes "a")
    × (front (codes "aé") 3 ≡ codes "aé") × (front (codes "aé") 4 ≡ codes "aé")
unfolding width
front-at_each_index = (refl, refl, refl, refl, refl)

back-at_each_index : (back (codes "aé") 0 ≡ codes "aé") × (back (codes "aé") 1 ≡ codes "é") × (back (codes "aé") 2 ≡ codes "é")
    × (back (codes "aé") 3 ≡ []) × (back (codes "aé") 4 ≡ [])
unfolding width
back-at_each_index = (refl, refl, refl, refl, refl)

back-of_wide_characters : back (codes "🤔🤔🤔") 8 ≡ codes "🤔"
unfolding width
back-of_wide_characters = refl

boundary-at_each_index : (boundary (codes "aé") 0 ≡ true) × (boundary (codes "aé") 1 ≡ true) × (boundary (codes "aé") 2 ≡ false)
    × (boundary (codes "aé") 3 ≡ true) × (boundary (codes "aé") 4 ≡ false)
unfolding width
boundary-at_each_index = (refl, refl, refl, refl, refl)

boundary-of_the_empty_text : (boundary [] 0 ≡ true) × (boundary [] 1 ≡ false)
boundary-of_the_empty_text = (refl, refl)

IsPrefix-each_prefix : IsPrefix [] (codes "aé") × IsPrefix (codes "a") (codes "aé") × IsPrefix (codes "aé") (codes "aé")
IsPrefix-each_prefix = ((codes "aé", refl), (codes "é", refl), ([], refl))

IsPrefix-no_end : IsPrefix (codes "é") (codes "aé") → ⊥
IsPrefix-no_end is = grind arith

IsPrefix-no_longer_text : IsPrefix (codes "aé") (codes "a") → ⊥
IsPrefix-no_longer_text is = grind arith

IsLongestFitting-inside_a_character : IsLongestFitting (codes "a") (codes "aé") 2
unfolding width
IsLongestFitting-inside_a_character = record { prefix = (codes "é", refl); fits = omega arith; longest = longest }
  where
    longest : (q : List ℕ) → IsPrefix q (codes "aé") → size q ≤ 2 → IsPrefix q (codes "a")
    longest [] is fits = (codes "a", refl)
    longest (c ∷ []) is fits = grind arith
    longest (c ∷ d ∷ q) is fits = absurd (grind arith)

IsLongestFitting-another_text : IsLongestFitting (codes "ab") (codes "aé") 2 → ⊥
IsLongestFitting-another_text is = grind arith

IsLongestFitting-too_large : IsLongestFitting (codes "aé") (codes "aé") 2 → ⊥
unfolding width
IsLongestFitting-too_large is = omega (arith, is.fits)

IsLongestFitting-too_short : IsLongestFitting [] (codes "aé") 2 → ⊥
unfolding width
IsLongestFitting-too_short is = grind (arith, is.longest (codes "a") (codes "é", refl) (omega arith))

IsLongestFitting-fits_exactly : IsLongestFitting (codes "aé") (codes "aé") 3
unfolding width
IsLongestFitting-fits_exactly = record { prefix = ([], refl); fits = omega arith; longest = λ q is fits. is }

IsBefore-the_shorter_text : IsBefore (codes "a") (codes "ab")
IsBefore-the_shorter_text = inl (0x62, [], refl)

IsBefore-the_lesser_character : IsBefore (codes "ab") (codes "b")
IsBefore-the_lesser_character = inr ([], 0x61, 0x62, codes "b", [], refl, refl, omega arith)

-- (by their numbers: the UTF-16 of the first would be greater)
IsBefore-the_last_of_three_bytes : IsBefore (0xFFFF ∷ []) (0x1_0000 ∷ [])
IsBefore-the_last_of_three_bytes = inr ([], 0xFFFF, 0x1_0000, [], [], refl, refl, omega arith)

IsBefore-not_itself : IsBefore (codes "a") (codes "a") → ⊥
IsBefore-not_itself (inl (c, rest, e)) = cc
IsBefore-not_itself (inr ([], c, d, x, y, a, b, lt)) = grind arith
IsBefore-not_itself (inr (p ∷ [], c, d, x, y, a, b, lt)) = cc
IsBefore-not_itself (inr (p ∷ q ∷ ps, c, d, x, y, a, b, lt)) = cc

-- (a later character of the one is no match for an earlier one of the other)
IsBefore-not_the_longer_text : IsBefore (codes "ba") (codes "b") → ⊥
IsBefore-not_the_longer_text (inl (c, rest, e)) = grind arith
IsBefore-not_the_longer_text (inr ([], c, d, x, y, a, b, lt)) = grind arith
IsBefore-not_the_longer_text (inr (p ∷ [], c, d, x, y, a, b, lt)) = grind arith
IsBefore-not_the_longer_text (inr (p ∷ q ∷ ps, c, d, x, y, a, b, lt)) = grind arith

IsBefore-not_the_greater_character : IsBefore (codes "b") (codes "ac") → ⊥
IsBefore-not_the_greater_character (inl (c, rest, e)) = grind arith
IsBefore-not_the_greater_character (inr ([], c, d, x, y, a, b, lt)) = grind arith
IsBefore-not_the_greater_character (inr (p ∷ [], c, d, x, y, a, b, lt)) = grind arith
IsBefore-not_the_greater_character (inr (p ∷ q ∷ ps, c, d, x, y, a, b, lt)) = grind arith

IsBefore-behind_a_common_prefix : IsBefore (codes "ab") (codes "ac")
IsBefore-behind_a_common_prefix = inr (codes "a", 0x62, 0x63, [], [], refl, refl, omega arith)
