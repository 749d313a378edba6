-- Where a text is cut, and how far back the boundary is.
use Rattle.std.proofs.Common.{◌≡◌, ℕ, ◌+◌, ◌-◌, ◌<◌, ◌≤◌, List, [], ◌∷◌, length, take, true, arith, IsUtf8, IsCharBoundary, chars, refl, sym, ap, ◌∙◌, inl, inr}
use Rattle.std.proofs.lemmas.Bool.{cases_lt}
use Rattle.std.proofs.lemmas.Bool.Decides.{nat_tests}
use Rattle.arraystring_base.specs.Text.{width, size, bytes, cut, front, back, boundary}
use Rattle.arraystring_base.proofs.TextLaws.{size-borrowed, width-bounds, bytes-chars}
use Rattle.arraystring_base.proofs.CutLaws.{cut-all, cut-cut, cut-fits}
use Rattle.arraystring_base.proofs.BoundaryLaws.{front-back, boundary-is, boundary-within, boundary-in_front, boundary-to_bytes, boundary-from_bytes, bytes-front}

-- a cut ends at a boundary
cut-boundary : (bs : List ℕ) (n : ℕ) → IsUtf8 bs → IsCharBoundary bs (size (cut (chars bs) n))
cut-boundary bs n u =
    let t = chars bs in
    let ends : boundary t (size (cut t n)) ≡ true = rw front-back at (boundary-is (front t n) (back t n) _ refl) in
    boundary-to_bytes t bs _ u (bytes-chars u) ends

-- the last boundary that isn't past n is where the text is cut
pub cut-at : (bs : List ℕ) (n m : ℕ) → IsUtf8 bs → IsCharBoundary bs m → m ≤ n
    → ((i : ℕ) → m < i → i ≤ n → IsCharBoundary bs i → ⊥) → take m bs ≡ bytes (cut (chars bs) n)
cut-at bs n m u b le nearest =
    let t = chars bs in
    let here = boundary-from_bytes bs m u b in
    let within : m ≤ size (cut t n) = boundary-within (cut t n) m (boundary-in_front t m n le here) in
    let fits : size (cut t n) ≤ m =
    elim (cases_lt m (size (cut t n))) [
      | inl over ↦ absurd (nearest _ over (cut-fits t n) (cut-boundary bs n u))
      | inr under ↦ under
    ] in
    rw (bytes-chars u) at (bytes-front t m here) ∙ ap bytes (sym (cut-cut t le) ∙ cut-all fits)

-- a cut leaves less than four bytes of the room, unless the text fits: if its first character does not fit, the room is less
-- than that character's width
near : (t : List ℕ) (n : ℕ) → n < size t → n < size (cut t n) + 4
near [] n lt = omega arith
near (c ∷ cs) n lt = grind (arith, nat_tests, width-bounds c, near cs (n - width c))

-- a boundary is at most three bytes back
pub near-boundary : (bs : List ℕ) (n : ℕ) → IsUtf8 bs → n < length bs → (m : ℕ) × (m ≤ n) × (n < m + 4) × IsCharBoundary bs m
near-boundary bs n u lt =
    let t = chars bs in (size (cut t n), cut-fits t n, near t n (omega (arith, size-borrowed u)), cut-boundary bs n u)
