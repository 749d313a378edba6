-- A given character divides a text into parts.
use Rattle.std.specs.Prelude.{ℕ, List, [], ◌∷◌, if◌then◌else◌, ◌==◌}

-- the parts, with the character d put at the start of the first part. If there is no part, the only part is the character d
abbrev pub prepend_to_first_part : ℕ → List (List ℕ) → List (List ℕ)
prepend_to_first_part d [] = (d ∷ []) ∷ []
prepend_to_first_part d (part ∷ rest) = (d ∷ part) ∷ rest

-- the parts into which the characters `c` divide a text; there is one part more than there are such characters
abbrev pub fields : ℕ → List ℕ → List (List ℕ)
fields c [] = [] ∷ []
fields c (d ∷ t) = if d == c then [] ∷ fields c t else prepend_to_first_part d (fields c t)
