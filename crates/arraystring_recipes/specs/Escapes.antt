-- A text with escapes.
use Rattle.std.specs.Prelude.{ℕ, List, [], ◌∷◌, if◌then◌else◌, ◌==◌, codes}
use Rattle.std.specs.List.{flat_map}

-- what a character of the text becomes: its escape if it is a line end, a tab or a backslash, and else itself
unfoldable pub escaped : ℕ → List ℕ
escaped c =
    if c == 0x0A then codes "\\n"
    else if c == 0x09 then codes "\\t"
    else if c == 0x5C then codes "\\\\"
    else c ∷ []

-- the text with an escape for each such character
abbrev pub escapes : List ℕ → List ℕ
escapes t = flat_map escaped t
