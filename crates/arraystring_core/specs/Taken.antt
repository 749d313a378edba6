-- These definitions say which items a call takes from an iterator that is passed in, and which text is made of the pieces that it gives.
use Rattle.std.specs.Prelude.{◌≡◌, ℕ, ◌<◌, ◌≤◌, List, [], ◌∷◌, ◌++◌, ◌⊎◌, Option, map, chars}
use Rattle.std.specs.Iterator.{Drains, Yields, AlwaysYields}
use Rattle.std.specs.Borrow.{Bor}
use Rattle.arraystring_base.specs.Text.{size}

-- texts, or the bytes of texts, one after the other
abbrev pub joined_texts : List (List ℕ) → List ℕ
joined_texts [] = []
joined_texts (t ∷ ts) = t ++ joined_texts ts

-- the text of a borrowed piece
abbrev pub piece_text : Bor (List ℕ) → List ℕ
piece_text piece = chars piece.now

-- the texts of borrowed pieces, one after the other
abbrev pub joined_pieces : List (Bor (List ℕ)) → List ℕ
joined_pieces pieces = joined_texts (map piece_text pieces)

-- all items but the last fit into the room, and with the last they do not. `spelled` makes the text of a list of items
abbrev pub OnlyLastDoesNotFit : {A : Type 0} → (List A → List ℕ) → ℕ → List A → Type 0
OnlyLastDoesNotFit {A} spelled room items = (before : List A) × (last : A) × (items ≡ before ++ last ∷ [])
    × (size (spelled before) ≤ room) × (room < size (spelled items))

-- `becomes` says into which iterators the value that is passed in may turn, and `steps` what one call of `next` may give
module _ {U T A : Type 0} (becomes : U → T → Type 0) (steps : T → Option A → T → Type 0) where
  -- the items are all that come: the iterator gives them, and then `None`
  abbrev pub TakesAll : U → List A → Type 0
  TakesAll iter items = (it : T) × becomes iter it × Drains steps it items

  -- the items that a call takes: all that come, if they fit into the room, and else those up to the first that no longer fits, which is
  -- among them (`cut_ignores_excess`)
  abbrev pub Takes : (List A → List ℕ) → U → ℕ → List A → Type 0
  Takes spelled iter room items = (it : T) × becomes iter it
      × ((Drains steps it items × (size (spelled items) ≤ room))
      ⊎ ((rest : T) × Yields steps it items rest × OnlyLastDoesNotFit spelled room items))

  -- whatever items come, they fit into the room
  abbrev pub Fits : (List A → List ℕ) → U → ℕ → Type 0
  Fits spelled iter room = (it : T) → becomes iter it → (items : List A) (rest : T) → Yields steps it items rest → size (spelled items) ≤ room

  -- the iterator gives items whose values are `all`; `value` gives the value of an item
  abbrev pub Gives : {B : Type 0} → (A → B) → U → List B → Type 0
  Gives value iter all = (it : T) → becomes iter it → AlwaysYields steps value it all
