-- Texts that are made of another text, character by character.
use Rattle.std.specs.Prelude.{ℕ, List, Bool, map, not, if◌then◌else◌, ◌==◌}
use Rattle.std.specs.Char.{to_ascii_uppercase}
use Rattle.std.specs.List.{filter}

-- `_` for a space, and each other character itself
abbrev pub underscored : ℕ → ℕ
underscored c = if c == 0x20 then 0x5F else c

-- whether a character is no space
abbrev pub is_no_space : ℕ → Bool
is_no_space c = not (c == 0x20)

-- the text without its spaces, with a to z in upper case
abbrev pub compact : List ℕ → List ℕ
compact t = map to_ascii_uppercase (filter is_no_space t)
