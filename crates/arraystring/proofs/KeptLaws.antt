-- What `retain` leaves, if its closure remembers something of the characters so far (specs/Loops).
use Rattle.std.proofs.Common.{◌≡◌, ℕ, List, [], ◌∷◌, ◌++◌, Bool, true, false, refl, ap, ◌∙◌, arith, length, if◌then◌else◌}
use Rattle.std.specs.List.{items_where_true}
use Rattle.std.specs.List.Retain.{IsFiltered, ReturnsInTurn}
use Rattle.arraystring.specs.Loops.{filter_with_memory, flat_map_with_memory}

-- one item more
pick : {X : Type 0} (b v : Bool) (x : X) (bs : List Bool) (xs zs : List X) → b ≡ v → items_where_true bs xs ≡ zs
    → items_where_true (b ∷ bs) (x ∷ xs) ≡ (if v then x ∷ zs else zs)
pick b true x bs xs zs is same = rw is (ap (λ l. x ∷ l) same)
pick b false x bs xs zs is same = rw is same

-- a closure in the state `p` answers `keeps (seen p) x`, and then remembers `next (seen p) x`
module _ {X P S : Type 0} (R : P → X → Bool → P → Type 0) (seen : P → S) (keeps : S → X → Bool) (next : S → X → S)
    (says : (p : P) (x : X) (b : Bool) (q : P) → R p x b q → (b ≡ keeps (seen p) x) × (seen q ≡ next (seen p) x)) where
  in-turn : (xs : List X) (p : P) (bs : List Bool) (q : P) → length bs ≡ length xs → ReturnsInTurn R p bs xs q
      → items_where_true bs xs ≡ filter_with_memory next keeps (seen p) xs
  in-turn [] p [] q same turns = refl
  in-turn [] p (b ∷ bs) q same turns = absurd turns
  in-turn (x ∷ xs) p [] q same turns = absurd (omega (arith, same))
  in-turn (x ∷ xs) p (b ∷ bs) q same turns =
      let said = says p x b turns.0 turns.1 in
      let rest = in-turn xs turns.0 bs q (omega (arith, same)) turns.2 in
      pick b (keeps (seen p) x) x bs xs _ said.0 (rest ∙ ap (λ s. filter_with_memory next keeps s xs) said.1)

  -- so the text is what is kept
  pub kept-from_retain : (p : P) (xs ys : List X) → IsFiltered R p xs ys → ys ≡ filter_with_memory next keeps (seen p) xs
  kept-from_retain p xs ys is = is.4 ∙ in-turn xs p is.0 is.1 is.2 is.3

-- a loop leaves the same: its piece of a character is this character if it is kept, and else nothing
pub kept-traced : {S : Type 0} (next : S → ℕ → S) (keeps : S → ℕ → Bool) (s : S) (t : List ℕ)
    → filter_with_memory next keeps s t ≡ flat_map_with_memory next (λ s c. if keeps s c then c ∷ [] else []) s t
kept-traced next keeps s [] = refl
kept-traced next keeps s (c ∷ t) =
    let rest = kept-traced next keeps (next s c) t in
    elim (keeps s c) as (λ keep. (if keep then c ∷ filter_with_memory next keeps (next s c) t else filter_with_memory next keeps (next s c) t)
    ≡ (if keep then c ∷ [] else []) ++ flat_map_with_memory next (λ s c. if keeps s c then c ∷ [] else []) (next s c) t) [
      | true ↦ ap (λ l. c ∷ l) rest
      | false ↦ rest
    ]
