-- Single letters of a text.
use Rattle.std.specs.Prelude.{ℕ, List, ◌++◌, map, take, drop}
use Rattle.std.specs.Char.{to_ascii_uppercase}

-- the text with its first letter in upper case, if it is one of ASCII
abbrev pub capitalized : List ℕ → List ℕ
capitalized t = map to_ascii_uppercase (take 1 t) ++ drop 1 t
