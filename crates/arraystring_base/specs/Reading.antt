-- A contract sees `Units`, an iterator over UTF-16, as the list of the characters and lone surrogates that are left. This list is the
-- reading of the units that are left, and is computed from the last unit back to the first.
use Rattle.std.specs.Prelude.{ℕ, Bool, ◌+◌, ◌-◌, ◌*◌, List, [], ◌∷◌, nat_lt, nat_le, ◌&&◌, if◌then◌else◌}
use Rattle.arraystring_base.specs.declared.utf16.Unit16.{Unit16}
use Rattle.arraystring_base.specs.declared.utf16.Unit16.TheVariants.{Char, Lone}

-- whether a unit is a high surrogate
abbrev pub is_high_surrogate : ℕ → Bool
is_high_surrogate unit = nat_le 0xD800 unit && nat_lt unit 0xDC00

-- whether a unit is a low surrogate
abbrev pub is_low_surrogate : ℕ → Bool
is_low_surrogate unit = nat_le 0xDC00 unit && nat_lt unit 0xE000

-- the character of a pair of a high and a low surrogate
abbrev pub pair_character : ℕ → ℕ → ℕ
pair_character high low = 0x1_0000 + ((high - 0xD800) * 0x400 + (low - 0xDC00))

-- a unit that is no part of a pair, as an item: `Lone` if it is a surrogate, and else `Char`
unfoldable pub item_of_unpaired_unit : ℕ → Unit16
item_of_unpaired_unit unit = if nat_le 0xD800 unit && nat_lt unit 0xE000 then Lone unit else Char unit

-- the reading of a unit and of the units behind it, whose own reading is `items`. If the unit is a high surrogate, and the first item is a
-- lone low surrogate, both become one character. Else the unit becomes an item of its own, before `items`
unfoldable pub prepend_unit : ℕ → List Unit16 → List Unit16
prepend_unit unit [] = item_of_unpaired_unit unit ∷ []
prepend_unit unit (Char c ∷ items) = item_of_unpaired_unit unit ∷ Char c ∷ items
prepend_unit unit (Lone next ∷ items) =
    if is_high_surrogate unit && is_low_surrogate next
    then Char (pair_character unit next) ∷ items
    else item_of_unpaired_unit unit ∷ Lone next ∷ items

-- the reading of units, from the last to the first: each is put before the reading of those behind it
abbrev pub reading : List ℕ → List Unit16
reading [] = []
reading (unit ∷ units) = prepend_unit unit (reading units)
