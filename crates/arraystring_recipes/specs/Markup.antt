-- Texts of which each character becomes a piece of bounded size.
use Rattle.std.specs.Prelude.{ℕ, List, [], ◌∷◌, Bool, true, false, if◌then◌else◌, ◌==◌, codes}
use Rattle.arraystring.specs.Loops.{flat_map_with_memory}

-- a character as it stands in HTML: its entity if it is `&`, `<` or `>`
unfoldable pub entity : ℕ → List ℕ
entity c =
    if c == 0x26 then codes "&amp;"
    else if c == 0x3C then codes "&lt;"
    else if c == 0x3E then codes "&gt;"
    else c ∷ []

-- after a character none is the first
abbrev pub not_first : Bool → ℕ → Bool
not_first is_first c = false

-- a character behind its hyphen, which the first one has not
abbrev pub hyphened_piece : Bool → ℕ → List ℕ
hyphened_piece is_first c = if is_first then c ∷ [] else 0x2D ∷ c ∷ []

-- the text with a hyphen between its characters
abbrev pub hyphened : List ℕ → List ℕ
hyphened t = flat_map_with_memory not_first hyphened_piece true t
