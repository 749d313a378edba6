-- What an empty range has.
use Rattle.std.proofs.Common.{◌≡◌, ℕ, List, [], true, subst}
use Rattle.arraystring.specs.Text.{boundary, back, front}
use Rattle.arraystring.specs.Parts.{part}
use Rattle.arraystring.proofs.BoundaryLaws.{front-size, back-end}

-- the part between a boundary and itself is empty
pub part_empty : (t : List ℕ) (i : ℕ) → boundary t i ≡ true → part t i i ≡ []
part_empty t i b = subst (λ n. back (front t i) n ≡ []) (front-size t i b) (back-end (front t i))
