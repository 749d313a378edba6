-- Examples of the parts of a text. 'é' takes two bytes.
use Rattle.std.proofs.Common.{◌≡◌, [], refl, codes, Some, None}
use Rattle.arraystring_base.specs.Text.{width}
use Rattle.arraystring_core.specs.Parts.{first_character, last_character, all_but_last, without_leading, without_trailing, part, checked_part}
use Rattle.arraystring_core.specs.WhiteSpace.{equals_space}

first_character-each_size : (first_character [] ≡ None) × (first_character (codes "a") ≡ Some 0x61) × (first_character (codes "abc") ≡ Some 0x61)
first_character-each_size = (refl, refl, refl)

last_character-each_size : (last_character [] ≡ None) × (last_character (codes "a") ≡ Some 0x61) × (last_character (codes "abc") ≡ Some 0x63)
last_character-each_size = (refl, refl, refl)

all_but_last-each_size : (all_but_last [] ≡ []) × (all_but_last (codes "a") ≡ []) × (all_but_last (codes "abc") ≡ codes "ab")
all_but_last-each_size = (refl, refl, refl)

without_leading-spaces : without_leading equals_space (codes " a b ") ≡ codes "a b "
without_leading-spaces = refl

without_leading-all_or_none : (without_leading equals_space (codes "  ") ≡ []) × (without_leading equals_space (codes "a") ≡ codes "a")
without_leading-all_or_none = (refl, refl)

without_trailing-spaces : without_trailing equals_space (codes " a b ") ≡ codes " a b"
without_trailing-spaces = refl

without_trailing-all_or_none : (without_trailing equals_space (codes "  ") ≡ []) × (without_trailing equals_space (codes "a") ≡ codes "a")
without_trailing-all_or_none = (refl, refl)

part-between_boundaries : (part (codes "aéb") 1 3 ≡ codes "é") × (part (codes "aéb") 0 4 ≡ codes "aéb") × (part (codes "aéb") 3 3 ≡ [])
unfolding width
part-between_boundaries = (refl, refl, refl)

checked_part-between_boundaries : (checked_part (codes "aéb") 1 3 ≡ Some (codes "é")) × (checked_part (codes "aéb") 4 4 ≡ Some [])
unfolding width
checked_part-between_boundaries = (refl, refl)

checked_part-reversed : checked_part (codes "aéb") 3 1 ≡ None
unfolding width
checked_part-reversed = refl

checked_part-inside_a_character : (checked_part (codes "aéb") 2 3 ≡ None) × (checked_part (codes "aéb") 0 2 ≡ None)
unfolding width
checked_part-inside_a_character = (refl, refl)

checked_part-past_the_text : checked_part (codes "aéb") 1 5 ≡ None
unfolding width
checked_part-past_the_text = refl
