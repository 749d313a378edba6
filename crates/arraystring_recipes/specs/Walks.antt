-- What two texts have in common at their start, and a text without case or without backslashes.
use Rattle.std.specs.Prelude.{ℕ, List, [], ◌∷◌, if◌then◌else◌, ◌==◌, map}
use Rattle.std.specs.Char.{to_ascii_lowercase}

-- the longest prefix that two texts have in common
abbrev pub common : List ℕ → List ℕ → List ℕ
common [] u = []
common (c ∷ t) [] = []
common (c ∷ t) (d ∷ u) = if c == d then c ∷ common t u else []

-- a text with its letters of ASCII in lower case
abbrev pub folded : List ℕ → List ℕ
folded t = map to_ascii_lowercase t

-- a text without its backslashes: the character behind one stands as it is, and one at the end is dropped
abbrev pub without_backslashes : List ℕ → List ℕ
without_backslashes [] = []
without_backslashes (c ∷ []) = if c == 0x5C then [] else c ∷ []
without_backslashes (c ∷ d ∷ t) = if c == 0x5C then d ∷ without_backslashes t else c ∷ without_backslashes (d ∷ t)
