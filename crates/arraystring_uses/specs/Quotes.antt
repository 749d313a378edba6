-- A field of a CSV file in quotes, and a text in which another text stands for a character.
use Rattle.std.specs.Prelude.{ℕ, List, [], ◌∷◌, ◌++◌, if◌then◌else◌, ◌==◌}
use Rattle.std.specs.List.{flat_map}

-- what a character of the field becomes: two quotes if it is a quote, and else itself
abbrev pub doubled : ℕ → List ℕ
doubled c = if c == 0x22 then 0x22 ∷ 0x22 ∷ [] else c ∷ []

-- the field between quotes
abbrev pub quoted : List ℕ → List ℕ
quoted t = 0x22 ∷ flat_map doubled t ++ 0x22 ∷ []

-- what stands for a character: `to` for `from`, and itself for each other
abbrev pub exchanged : ℕ → List ℕ → ℕ → List ℕ
exchanged from to c = if c == from then to else c ∷ []

-- the text with `to` in place of each `from`
abbrev pub replaced : ℕ → List ℕ → List ℕ → List ℕ
replaced from to t = flat_map (exchanged from to) t
