-- These definitions say what a loop makes of a list, or keeps of it, if each step depends on the items before it.
use Rattle.std.specs.Prelude.{List, [], ◌∷◌, ◌++◌, ℕ, Bool, if◌then◌else◌}

module _ {S X : Type 0} (next : S → X → S) where
  -- the state after some items: it is `s` before the first, and `next` gives the state after one more item
  abbrev pub memory : S → List X → S
  memory s [] = s
  memory s (x ∷ xs) = memory (next s x) xs

  -- the joined pieces of the items: `piece` makes each piece from its item and the state before it
  abbrev pub flat_map_with_memory : (S → X → List ℕ) → S → List X → List ℕ
  flat_map_with_memory piece s [] = []
  flat_map_with_memory piece s (x ∷ xs) = piece s x ++ flat_map_with_memory piece (next s x) xs

  -- the items that are kept: `keeps` looks at an item and at the state before it
  abbrev pub filter_with_memory : (S → X → Bool) → S → List X → List X
  filter_with_memory keeps s [] = []
  filter_with_memory keeps s (x ∷ xs) = if keeps s x then x ∷ filter_with_memory keeps (next s x) xs else filter_with_memory keeps (next s x) xs
