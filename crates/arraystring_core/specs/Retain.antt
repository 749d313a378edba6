-- These are conditions on a closure that is called with characters.
use Rattle.std.specs.Prelude.{◌≡◌, ℕ, Bool, List, ◌∷◌, ◌++◌}
use Rattle.std.specs.List.{FoldsTo}

-- a closure may be called with the characters cs in turn: with each of them in any state in which the calls before may leave the closure
pub record IsCallableInTurn {F : Type 0} (can : F → ℕ → Type 0) (steps : F → ℕ → Bool → F → Type 0) (f : F) (cs : List ℕ) : Type 0 where
  pub at : (before : List ℕ) (c : ℕ) (after : List ℕ) (g : F) → cs ≡ before ++ c ∷ after
      → FoldsTo (λ p x q. (b : Bool) × steps p x b q) f before g → can g c

-- whatever the closure f returns for a character is what `passes` says of it
pub record ReturnsAs {F : Type 0} (returns : F → ℕ → Bool → Type 0) (f : F) (passes : ℕ → Bool) : Type 0 where
  pub at : (c : ℕ) (b : Bool) → returns f c b → b ≡ passes c
