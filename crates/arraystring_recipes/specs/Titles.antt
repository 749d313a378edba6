-- Texts that are made by a loop which remembers something of the characters before.
use Rattle.std.specs.Prelude.{ℕ, List, [], ◌∷◌, Bool, true, not, Option, Some, None, if◌then◌else◌, ◌==◌}
use Rattle.std.specs.Char.{to_ascii_uppercase}
use Rattle.arraystring.specs.Loops.{flat_map_with_memory, filter_with_memory}

-- whether a word begins after this character
abbrev pub ends_word : Bool → ℕ → Bool
ends_word at_start c = c == 0x20

-- a character of a title: in upper case, if a word begins with it
abbrev pub title_piece : Bool → ℕ → List ℕ
title_piece at_start c = (if at_start then to_ascii_uppercase c else c) ∷ []

-- the text with each letter from a to z in upper case that stands first or behind a space
abbrev pub title : List ℕ → List ℕ
title t = flat_map_with_memory ends_word title_piece true t

-- what is remembered behind a character: this character
abbrev pub last_seen : Option ℕ → ℕ → Option ℕ
last_seen last c = Some c

-- whether a character differs from the one before it, or is the first
abbrev pub is_new : Option ℕ → ℕ → Bool
is_new None c = true
is_new (Some last) c = not (last == c)

-- the text with one character in place of each run of the same
abbrev pub squeezed : List ℕ → List ℕ
squeezed t = filter_with_memory last_seen is_new None t
