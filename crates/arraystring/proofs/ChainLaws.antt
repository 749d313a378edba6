-- Laws of texts that `map` and `filter` make: by a loop, which appends a piece for each character, and by a chain of iterators.
use Rattle.std.proofs.Common.{◌≡◌, ℕ, Bool, List, [], ◌∷◌, map, flat_map, refl, sym, arith, Option, IsUtf8, chars, if◌then◌else◌}
use Rattle.std.proofs.iter.TextItems.{spells}
use Rattle.std.proofs.lemmas.Iterator.{YieldsList, YieldsList-from_chars, YieldsList-from_map}
use Rattle.std.proofs.lemmas.Iterator.Consumers.{YieldsList-from_filter}
use Rattle.std.proofs.lemmas.List.Concat.{flat_map_single}
use Rattle.std.specs.Fn.{Called, CalledAt}
use Rattle.std.specs.Iterator.{AlwaysYields}
use Rattle.std.specs.Iterator.Adapters.{map_source, map_callee, map_steps, filter_source, filter_callee, filter_steps}
use Rattle.std.specs.List.{filter}
use Rattle.std.specs.Str.Iter.{chars_rest}
use Rattle.std.specs.declared.iter.Filter.{Filter}
use Rattle.std.specs.declared.iter.Map.{Map}
use Rattle.std.specs.declared.str.Chars.{Chars}
use denote.Param.Members.{Mut}
use Rattle.std.specs.Borrow.{Bor}

-- a `map` is the pieces of a loop that appends one character for each
pub map_pieces : {A B : Type 0} (f : A → B) (xs : List A) → map f xs ≡ flat_map (λ x. f x ∷ []) xs
map_pieces f xs = sym (flat_map_single f xs)

-- a `filter` is the pieces of a loop that appends a character if it passes
pub filter_pieces : {A : Type 0} (p : A → Bool) (xs : List A) → filter p xs ≡ flat_map (λ x. if p x then x ∷ [] else []) xs
filter_pieces p [] = refl
filter_pieces p (x ∷ xs) = grind (arith, filter_pieces p xs)

-- and a `map` behind a `filter` those of one that appends what stands for a character, if that passes
pub kept_pieces : {A B : Type 0} (f : A → B) (p : A → Bool) (xs : List A)
    → map f (filter p xs) ≡ flat_map (λ x. if p x then f x ∷ [] else []) xs
kept_pieces f p [] = refl
kept_pieces f p (x ∷ xs) = grind (arith, kept_pieces f p xs)

-- `text.chars()` gives the characters
pub gives-chars : (it : Chars) (bs : List ℕ) → IsUtf8 bs → chars_rest it ≡ bs → AlwaysYields spells (λ c. c) it (chars bs)
gives-chars it bs u rest = (YieldsList-from_chars bs u rest).runs

-- an iterator that gives the items `xs`, behind which another one stands; the closure of that returns what `f` or `p` says, and stays the
-- same. (`grind` looks for what the other one gives, so that one law finds what the next one wants, along the whole chain.)
module _ {S F A : Type 0} (steps : S → Option A → S → Type 0) where
  -- `map` gives the map of the items
  pub gives-mapped : {B : Type 0} (g : Mut F (A × Unit {0}) B) (it : Map S F) (f : A → B) (xs : List A)
      → AlwaysYields steps (λ x. x) (map_source it) xs
      → ((x : A) (r : B) (q : F) → Called g (map_callee it) (x, tt) r q → (q ≡ map_callee it) × (r ≡ f x))
      → AlwaysYields (map_steps steps g) (λ r. r) it (map f xs)
  gives-mapped g it f xs all calls =
      let source : YieldsList steps (λ x. x) (map_source it) xs = record { runs = all } in (YieldsList-from_map g f source refl calls).runs

  -- `filter` gives the items that pass
  pub gives-kept : (g : Mut F (Bor A × Unit {0}) Bool) (it : Filter S F) (p : A → Bool) (xs : List A)
      → AlwaysYields steps (λ x. x) (filter_source it) xs
      → ((x : A) (b : Bool) (q : F) → CalledAt g (filter_callee it) x b q → (q ≡ filter_callee it) × (b ≡ p x))
      → AlwaysYields (filter_steps steps g) (λ x. x) it (filter p xs)
  gives-kept g it p xs all calls =
      let source : YieldsList steps (λ x. x) (filter_source it) xs = record { runs = all } in (YieldsList-from_filter g p source refl calls).runs
