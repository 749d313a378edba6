-- Examples of a string as contracts see it. `codes "ab."` is the list of the bytes of "ab.".
use Rattle.std.proofs.Common.{◌≡◌, ℕ, List, refl, arith, codes}
use Rattle.std.specs.Str.{chars}
use Rattle.arraystring_core.specs.Layout.{string_in}
use Rattle.arraystring_core.specs.Stored.{view_with_empty_spare}

-- contracts compare texts and not these values, since one text may lie at two places
StringView-one_text_at_two_places : ((string_in (codes "ab.") 0 2).text ≡ (string_in (codes "xab") 1 2).text)
    × (string_in (codes "ab.") 0 2 ≡ string_in (codes "xab") 1 2 → ⊥)
unfolding chars
StringView-one_text_at_two_places = (refl, λ e. grind arith)

-- the spare numbers of a string begin with its start
view_with_empty_spare-is_no_string_in_an_array : (array : List ℕ) (start n : ℕ) (t : List ℕ) → string_in array start n ≡ view_with_empty_spare t → ⊥
view_with_empty_spare-is_no_string_in_an_array array start n t e = grind arith
