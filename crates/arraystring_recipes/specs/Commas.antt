-- A text with a comma before each fourth character.
use Rattle.std.specs.Prelude.{ℕ, List, [], ◌∷◌, if◌then◌else◌, ◌==◌, ◌%◌}
use Rattle.std.specs.List.{flat_map, enumerate_from}

-- what a character becomes: behind a comma if it is a fourth one, which its index tells (the first index is 0), and else itself
abbrev pub piece : ℕ × ℕ → List ℕ
piece (index, ch) = if index % 4 == 3 then 0x2C ∷ ch ∷ [] else ch ∷ []

-- the text with these commas
abbrev pub with_commas : List ℕ → List ℕ
with_commas t = flat_map piece (enumerate_from 0 t)
