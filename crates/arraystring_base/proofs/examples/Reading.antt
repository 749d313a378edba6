-- Examples of how units are read. D834 DD1E is the pair of '𝄞' (U+1D11E).
use Rattle.std.proofs.Common.{◌≡◌, [], ◌∷◌, refl, true, false}
use Rattle.arraystring_base.specs.Reading.{is_high_surrogate, is_low_surrogate, pair_character, item_of_unpaired_unit, prepend_unit, reading}
use Rattle.arraystring_base.specs.declared.utf16.Unit16.TheVariants.{Char, Lone}

is_high_surrogate-ends_of_the_range : (is_high_surrogate 0xD7FF ≡ false) × (is_high_surrogate 0xD800 ≡ true) × (is_high_surrogate 0xDBFF ≡ true) × (is_high_surrogate 0xDC00 ≡ false)
is_high_surrogate-ends_of_the_range = (refl, refl, refl, refl)

is_low_surrogate-ends_of_the_range : (is_low_surrogate 0xDBFF ≡ false) × (is_low_surrogate 0xDC00 ≡ true) × (is_low_surrogate 0xDFFF ≡ true) × (is_low_surrogate 0xE000 ≡ false)
is_low_surrogate-ends_of_the_range = (refl, refl, refl, refl)

pair_character-first_and_last : (pair_character 0xD800 0xDC00 ≡ 0x1_0000) × (pair_character 0xDBFF 0xDFFF ≡ 0x10_FFFF)
pair_character-first_and_last = (refl, refl)

pair_character-of_two_between : (pair_character 0xD834 0xDD1E ≡ 0x1_D11E) × (pair_character 0xD801 0xDC00 ≡ 0x1_0400)
pair_character-of_two_between = (refl, refl)

item_of_unpaired_unit-ends_of_the_surrogates : (item_of_unpaired_unit 0xD7FF ≡ Char 0xD7FF) × (item_of_unpaired_unit 0xD800 ≡ Lone 0xD800)
    × (item_of_unpaired_unit 0xDFFF ≡ Lone 0xDFFF) × (item_of_unpaired_unit 0xE000 ≡ Char 0xE000)
unfolding item_of_unpaired_unit
item_of_unpaired_unit-ends_of_the_surrogates = (refl, refl, refl, refl)

prepend_unit-no_item : prepend_unit 0x61 [] ≡ Char 0x61 ∷ []
unfolding prepend_unit item_of_unpaired_unit
prepend_unit-no_item = refl

prepend_unit-a_character : prepend_unit 0xD834 (Char 0x61 ∷ []) ≡ Lone 0xD834 ∷ Char 0x61 ∷ []
unfolding prepend_unit item_of_unpaired_unit
prepend_unit-a_character = refl

prepend_unit-the_end_of_a_pair : prepend_unit 0xD834 (Lone 0xDD1E ∷ Char 0x61 ∷ []) ≡ Char 0x1_D11E ∷ Char 0x61 ∷ []
unfolding prepend_unit
prepend_unit-the_end_of_a_pair = refl

prepend_unit-another_high_one : prepend_unit 0xD834 (Lone 0xD800 ∷ Char 0x61 ∷ []) ≡ Lone 0xD834 ∷ Lone 0xD800 ∷ Char 0x61 ∷ []
unfolding prepend_unit item_of_unpaired_unit
prepend_unit-another_high_one = refl

prepend_unit-by_no_high_one : prepend_unit 0x61 (Lone 0xDD1E ∷ []) ≡ Char 0x61 ∷ Lone 0xDD1E ∷ []
unfolding prepend_unit item_of_unpaired_unit
prepend_unit-by_no_high_one = refl

reading-of_nothing : reading [] ≡ []
reading-of_nothing = refl

reading-of_lone_ones : reading (0xD800 ∷ 0x61 ∷ 0xDC00 ∷ 0xD834 ∷ []) ≡ Lone 0xD800 ∷ Char 0x61 ∷ Lone 0xDC00 ∷ Lone 0xD834 ∷ []
unfolding prepend_unit item_of_unpaired_unit
reading-of_lone_ones = refl

-- a high one that has no partner leaves the pair behind it whole
reading-of_a_lone_one_before_a_pair : reading (0xD800 ∷ 0xD834 ∷ 0xDD1E ∷ 0xDD1E ∷ []) ≡ Lone 0xD800 ∷ Char 0x1_D11E ∷ Lone 0xDD1E ∷ []
unfolding prepend_unit item_of_unpaired_unit
reading-of_a_lone_one_before_a_pair = refl
