-- Examples of a closure that is called with characters. This one counts its calls, and may be called while it counts less than two.
use Rattle.std.proofs.Common.{◌≡◌, ◌+◌, ◌<◌, ℕ, Bool, List, [], ◌∷◌, ◌++◌, refl, arith, codes, true}
use Rattle.std.specs.List.{FoldsTo}
use Rattle.arraystring_core.specs.Retain.{IsCallableInTurn, ReturnsAs}
use Rattle.arraystring_core.specs.WhiteSpace.{equals_space}

abbrev can : ℕ → ℕ → Type 0
can calls c = calls < 2

abbrev steps : ℕ → ℕ → Bool → ℕ → Type 0
steps calls c answer next = next ≡ calls + 1

IsCallableInTurn-twice : IsCallableInTurn can steps 0 (codes "ab")
IsCallableInTurn-twice = record { at = at }
  where
    at : (before : List ℕ) (c : ℕ) (after : List ℕ) (g : ℕ) → codes "ab" ≡ before ++ c ∷ after
        → FoldsTo (λ p x q. (b : Bool) × steps p x b q) 0 before g → can g c
    at [] c after g e folds = omega arith
    at (x ∷ []) c after g e folds = omega arith
    at (x ∷ y ∷ []) c after g e folds = absurd (cc)
    at (x ∷ y ∷ z ∷ before) c after g e folds = absurd (cc)

IsCallableInTurn-not_a_third_time : IsCallableInTurn can steps 0 (codes "abc") → ⊥
IsCallableInTurn-not_a_third_time is =
    omega (arith, is.at (codes "ab") 0x63 [] 2 refl (1, (true, refl), (2, (true, refl), refl)))

IsCallableInTurn-not_the_first_time : IsCallableInTurn (λ calls c. 0 < calls) steps 0 (codes "ab") → ⊥
IsCallableInTurn-not_the_first_time is = omega (arith, is.at [] 0x61 (codes "b") 0 refl refl)

-- a closure that tells spaces, and one that returns anything
abbrev tells : Unit {0} → ℕ → Bool → Type 0
tells f c answer = answer ≡ equals_space c

abbrev guesses : Unit {0} → ℕ → Bool → Type 0
guesses f c answer = answer ≡ answer

ReturnsAs-it_tells : ReturnsAs tells tt equals_space
ReturnsAs-it_tells = record { at = λ c b returns. returns }

ReturnsAs-not_if_it_guesses : ReturnsAs guesses tt equals_space → ⊥
ReturnsAs-not_if_it_guesses is = cc (is.at 0x61 true refl)
