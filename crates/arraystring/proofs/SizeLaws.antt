-- Laws of the sizes of texts that are made of another text, character by character.
use Rattle.std.proofs.Common.{◌≡◌, ℕ, ◌≤◌, Bool, List, [], ◌∷◌, map, flat_map, length, reverse, refl, ap, arith}
use Rattle.std.proofs.lemmas.List.{reverse-append}
use Rattle.std.specs.List.{filter}
use Rattle.arraystring_base.specs.Text.{size, width}
use Rattle.arraystring_base.proofs.TextLaws.{size-append, width-bounds}

-- a `map` that keeps the width of each character keeps the size
pub size-map : (f : ℕ → ℕ) → ((c : ℕ) → width (f c) ≡ width c) → (t : List ℕ) → size (map f t) ≡ size t
size-map f same [] = refl
size-map f same (c ∷ t) = omega (arith, same c, size-map f same t)

-- what a test keeps of a text is no larger than the text
pub size-filter : (p : ℕ → Bool) (t : List ℕ) → size (filter p t) ≤ size t
size-filter p [] = omega arith
size-filter p (c ∷ t) = grind (arith, size-filter p t)

-- a text from back to front takes the same number of bytes
pub size-reverse : (t : List ℕ) → size (reverse t) ≡ size t
size-reverse [] = omega arith
size-reverse (c ∷ t) = omega (arith, ap size (reverse-append (c ∷ []) t), size-append (reverse t) (c ∷ []), size-reverse t)

-- pieces of which each takes no more than its character take no more than the text
pub size-pieces : (piece : ℕ → List ℕ) → ((c : ℕ) → size (piece c) ≤ width c) → (t : List ℕ) → size (flat_map piece t) ≤ size t
size-pieces piece low [] = omega arith
size-pieces piece low (c ∷ t) = omega (arith, low c, size-append (piece c) (flat_map piece t), size-pieces piece low t)

-- a text has no more characters than bytes
pub length-low : (t : List ℕ) → length t ≤ size t
length-low [] = omega arith
length-low (c ∷ t) = omega (arith, width-bounds c, length-low t)
