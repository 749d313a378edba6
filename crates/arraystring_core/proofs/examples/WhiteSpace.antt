-- Examples of white space: of each range its first and last character, and those next to it.
use Rattle.std.proofs.Common.{◌≡◌, [], ◌∷◌, refl, true, false}
use Rattle.arraystring_core.specs.WhiteSpace.{equals_space, in_ranges, is_white_space}

equals_space-alone : (equals_space 0x1F ≡ false) × (equals_space 0x20 ≡ true) × (equals_space 0x21 ≡ false) × (equals_space 0x09 ≡ false)
equals_space-alone = (refl, refl, refl, refl)

in_ranges-of_none : in_ranges [] 0 ≡ false
in_ranges-of_none = refl

in_ranges-ends_of_the_first : (in_ranges ((2, 3) ∷ (5, 5) ∷ []) 1 ≡ false) × (in_ranges ((2, 3) ∷ (5, 5) ∷ []) 2 ≡ true)
    × (in_ranges ((2, 3) ∷ (5, 5) ∷ []) 3 ≡ true) × (in_ranges ((2, 3) ∷ (5, 5) ∷ []) 4 ≡ false)
in_ranges-ends_of_the_first = (refl, refl, refl, refl)

in_ranges-a_later_one : (in_ranges ((2, 3) ∷ (5, 5) ∷ []) 5 ≡ true) × (in_ranges ((2, 3) ∷ (5, 5) ∷ []) 6 ≡ false)
in_ranges-a_later_one = (refl, refl)

is_white_space-tab_to_return : (is_white_space 0x08 ≡ false) × (is_white_space 0x09 ≡ true)
    × (is_white_space 0x0D ≡ true) × (is_white_space 0x0E ≡ false)
unfolding is_white_space
is_white_space-tab_to_return = (refl, refl, refl, refl)

is_white_space-space : (is_white_space 0x1F ≡ false) × (is_white_space 0x20 ≡ true) × (is_white_space 0x21 ≡ false)
unfolding is_white_space
is_white_space-space = (refl, refl, refl)

is_white_space-next_line : (is_white_space 0x84 ≡ false) × (is_white_space 0x85 ≡ true) × (is_white_space 0x86 ≡ false)
unfolding is_white_space
is_white_space-next_line = (refl, refl, refl)

is_white_space-no_break_space : (is_white_space 0x9F ≡ false) × (is_white_space 0xA0 ≡ true) × (is_white_space 0xA1 ≡ false)
unfolding is_white_space
is_white_space-no_break_space = (refl, refl, refl)

is_white_space-ogham : (is_white_space 0x167F ≡ false) × (is_white_space 0x1680 ≡ true) × (is_white_space 0x1681 ≡ false)
unfolding is_white_space
is_white_space-ogham = (refl, refl, refl)

-- U+200B, the space of width zero, is none
is_white_space-quads_to_hair : (is_white_space 0x1FFF ≡ false) × (is_white_space 0x2000 ≡ true)
    × (is_white_space 0x200A ≡ true) × (is_white_space 0x200B ≡ false)
unfolding is_white_space
is_white_space-quads_to_hair = (refl, refl, refl, refl)

is_white_space-separators : (is_white_space 0x2027 ≡ false) × (is_white_space 0x2028 ≡ true)
    × (is_white_space 0x2029 ≡ true) × (is_white_space 0x202A ≡ false)
unfolding is_white_space
is_white_space-separators = (refl, refl, refl, refl)

is_white_space-narrow_no_break : (is_white_space 0x202E ≡ false) × (is_white_space 0x202F ≡ true) × (is_white_space 0x2030 ≡ false)
unfolding is_white_space
is_white_space-narrow_no_break = (refl, refl, refl)

is_white_space-mathematical : (is_white_space 0x205E ≡ false) × (is_white_space 0x205F ≡ true) × (is_white_space 0x2060 ≡ false)
unfolding is_white_space
is_white_space-mathematical = (refl, refl, refl)

is_white_space-ideographic : (is_white_space 0x2FFF ≡ false) × (is_white_space 0x3000 ≡ true) × (is_white_space 0x3001 ≡ false)
unfolding is_white_space
is_white_space-ideographic = (refl, refl, refl)
