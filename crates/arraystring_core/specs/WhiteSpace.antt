-- These definitions say which characters are white space, which a trim drops.
use Rattle.std.specs.Prelude.{ℕ, List, [], ◌∷◌, Bool, false, ◌&&◌, ◌||◌, ◌==◌, nat_le}

-- whether c is the space, U+0020
abbrev pub equals_space : ℕ → Bool
equals_space c = c == 0x20

-- whether c is in one of these ranges, each given by its first and its last character
abbrev pub in_ranges : List (ℕ × ℕ) → ℕ → Bool
in_ranges [] c = false
in_ranges ((first, last) ∷ ranges) c = (nat_le first c && nat_le c last) || in_ranges ranges c

-- whether c has the property White_Space of the Unicode Standard (UAX #44, file PropList.txt)
unfoldable pub is_white_space : ℕ → Bool
is_white_space = in_ranges (
    (0x0009, 0x000D) ∷ (0x0020, 0x0020) ∷ (0x0085, 0x0085) ∷ (0x00A0, 0x00A0) ∷ (0x1680, 0x1680)
    ∷ (0x2000, 0x200A) ∷ (0x2028, 0x2029) ∷ (0x202F, 0x202F) ∷ (0x205F, 0x205F) ∷ (0x3000, 0x3000) ∷ []
    )
