-- Laws of a place between two characters: of where it lies, and of the texts beside it after an edit that leaves it where it was.
use Rattle.std.proofs.Common.{◌≡◌, ℕ, ◌≤◌, ◌<◌, List, [], ◌∷◌, ◌++◌, true, refl, ap, sym, ◌∙◌, drop, arith}
use Rattle.std.specs.Prelude.{slice_index_or}
use Rattle.arraystring_base.specs.Text.{size, front, back, boundary}
use Rattle.arraystring_base.proofs.BoundaryLaws.{front-is, back-is, boundary-is, boundary-within, front-size, back-size, front-end, back-end}

-- a place lies within the text, and before the end a character begins there. (`grind` looks for the part from the place on, which the
-- first part of the conclusion shows.)
pub place-within : (t : List ℕ) (i : ℕ) → boundary t i ≡ true
    → (back t i ≡ back t i) × (i ≤ size t) × (i < size t → back t i ≡ slice_index_or (back t i) 0 0 ∷ drop 1 (back t i))
place-within t i b = (refl, boundary-within t i b, λ under. begins (back t i) (omega (arith, back-size t i b, under)))
  where
    begins : (l : List ℕ) → 0 < size l → l ≡ slice_index_or l 0 0 ∷ drop 1 l
    begins [] some = absurd (omega (arith, some))
    begins (c ∷ l) some = refl

-- the place where something was removed is a boundary of what is left, and has the same text before it
pub removed-place : (t rest : List ℕ) (i : ℕ) → boundary t i ≡ true
    → (boundary (front t i ++ rest) i ≡ true) × (front (front t i ++ rest) i ≡ front t i) × (back (front t i ++ rest) i ≡ rest)
removed-place t rest i b =
    let joint = front-size t i b in
    (boundary-is (front t i) rest i joint, front-is (front t i) rest i joint, back-is (front t i) rest i joint)

-- where the text was cut, nothing stands behind the place
pub cut-place : (t : List ℕ) (i : ℕ) → boundary t i ≡ true → (front (front t i) i ≡ front t i) × (back (front t i) i ≡ [])
cut-place t i b =
    let joint = sym (front-size t i b) in
    (ap (front (front t i)) joint ∙ front-end (front t i), ap (back (front t i)) joint ∙ back-end (front t i))

-- at the end all of the text stands before the place
pub end-place : (t : List ℕ) (i : ℕ) → i ≡ size t → (front t i ≡ t) × (back t i ≡ [])
end-place t i e = (ap (front t) e ∙ front-end t, ap (back t) e ∙ back-end t)
