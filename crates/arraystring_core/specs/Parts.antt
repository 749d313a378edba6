-- These definitions are parts of a text: its first and last character, what stands between two boundaries, and what is left if some
-- characters at its start or end are dropped.
use Rattle.std.specs.Prelude.{ℕ, List, [], ◌∷◌, Bool, ◌&&◌, Option, Some, None, if◌then◌else◌, nat_le, reverse}
use Rattle.arraystring_base.specs.Text.{front, back, boundary}

-- the first character of a text, if any
abbrev pub first_character : List ℕ → Option ℕ
first_character [] = None
first_character (c ∷ cs) = Some c

-- the last character of a text, if any
abbrev pub last_character : List ℕ → Option ℕ
last_character [] = None
last_character (c ∷ []) = Some c
last_character (c ∷ d ∷ ds) = last_character (d ∷ ds)

-- the text without its last character
abbrev pub all_but_last : List ℕ → List ℕ
all_but_last [] = []
all_but_last (c ∷ []) = []
all_but_last (c ∷ d ∷ ds) = c ∷ all_but_last (d ∷ ds)

-- a text without the characters at its start for which `passes` is true, up to the first for which it is false
abbrev pub without_leading : (ℕ → Bool) → List ℕ → List ℕ
without_leading passes [] = []
without_leading passes (c ∷ cs) = if passes c then without_leading passes cs else c ∷ cs

-- a text without the characters at its end for which `passes` is true, back to the last for which it is false
abbrev pub without_trailing : (ℕ → Bool) → List ℕ → List ℕ
without_trailing passes t = reverse (without_leading passes (reverse t))

-- the part of t between two boundaries
abbrev pub part : List ℕ → ℕ → ℕ → List ℕ
part t start end = back (front t end) start

-- the part in a range, or `None` if the range ends before it starts, or if an end of the range is no boundary
abbrev pub checked_part : List ℕ → ℕ → ℕ → Option (List ℕ)
checked_part t start end = if nat_le start end && (boundary t start && boundary t end) then Some (part t start end) else None
