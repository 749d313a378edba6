-- Laws of boundaries, and of the parts of a text before one, from one on and between two.
use Rattle.std.proofs.Common.{◌≡◌, ℕ, ◌+◌, ◌-◌, ◌≤◌, List, [], ◌∷◌, ◌++◌, true, Some, arith, ap, append_assoc, refl, sym, ◌∙◌}
use Rattle.std.proofs.lemmas.Bool.Decides.{nat_tests}
use Rattle.arraystring_base.specs.Text.{width, size, front, back, boundary}
use Rattle.arraystring_base.proofs.TextLaws.{size-append}
use Rattle.arraystring_core.specs.Edits.{part, checked_part}
pub use Rattle.arraystring_base.proofs.BoundaryLaws.{front-back, front-start, back-start, front-end, back-end, front-is, back-is, front-size, back-size}
pub use Rattle.arraystring_base.proofs.BoundaryLaws.{boundary-is, boundary-end, boundary-within, boundary-prefix}
pub use Rattle.arraystring_core.proofs.PartLaws.{part-joined, part-size, checked_part-some}

-- the start is a boundary
pub boundary-start : (t : List ℕ) → boundary t 0 ≡ true
boundary-start t = boundary-is [] t 0 refl

-- and so is the end, in a form that `grind` finds at any index
pub boundary-at_end : (t : List ℕ) (i : ℕ) → i ≡ size t → boundary t i ≡ true
boundary-at_end t i e = rw e (boundary-end t)

-- what is before an index is no larger than the text; so a boundary, which is the size of that, is within the text
pub front-fits : (t : List ℕ) (i : ℕ) → size (front t i) ≤ size t
front-fits t i = omega (arith, ap size (front-back t i), size-append (front t i) (back t i))

-- the part from the start to the end is the text
pub part-all : (t : List ℕ) → part t 0 (size t) ≡ t
part-all t = rw front-end (back-start t)

-- the part from the start to an index is what is before it
pub part-start : (t : List ℕ) (i : ℕ) → part t 0 i ≡ front t i
part-start t i = back-start (front t i)

-- and the part from an index to the end what is from it on
pub part-end : (t : List ℕ) (i : ℕ) → part t i (size t) ≡ back t i
part-end t i = rw front-end refl

-- a range that has a part is in order and lies between two boundaries: `checked_part` tests all three, and is `None` unless they hold
pub part_in-found : (t : List ℕ) (start end : ℕ) {found : List ℕ} → checked_part t start end ≡ Some found
    → (start ≤ end) × (boundary t start ≡ true) × (boundary t end ≡ true) × (found ≡ part t start end)
part_in-found t start end {found} some = grind (arith, nat_tests)

-- the range from the start to a boundary has a part: what is before the boundary
pub part_in-front : (t : List ℕ) (i : ℕ) → boundary t i ≡ true → checked_part t 0 i ≡ Some (front t i)
part_in-front t i b = checked_part-some t 0 i (omega arith) (boundary-start t) b ∙ ap (λ part. Some part) (part-start t i)

-- a part is no larger than its text
pub part-fits : (t : List ℕ) (start end : ℕ) → size (part t start end) ≤ size t
part-fits t start end =
    let f = front t end in
    omega (
      arith,
      ap size (front-back t end),
      size-append f (back t end),
      ap size (front-back f start),
      size-append (front f start) (back f start),
    )

-- the place behind what was put at a boundary is a boundary: before it is what was before and what was put there
pub boundary-behind : (t : List ℕ) (i : ℕ) (given : List ℕ) (j : ℕ) {new : List ℕ} → boundary t i ≡ true
    → new ≡ front t i ++ (given ++ back t i) → j ≡ i + size given
    → (boundary new j ≡ true) × (front new j ≡ front t i ++ given) × (back new j ≡ back t i)
boundary-behind t i given j b is at =
    let before = front t i ++ given in
    let long : size before ≡ j = omega (arith, size-append (front t i) given, front-size t i b) in
    let parts = is ∙ sym (append_assoc (front t i) given (back t i)) in
    rw parts (boundary-is before (back t i) j long, front-is before (back t i) j long, back-is before (back t i) j long)

-- the same in a form that `grind` finds: it looks for the text that the insertion leaves
pub boundary-behind_given : (t : List ℕ) (i : ℕ) (given : List ℕ) → boundary t i ≡ true → let new = front t i ++ (given ++ back t i) in
    (new ≡ new) × (boundary new (i + size given) ≡ true) × (front new (i + size given) ≡ front t i ++ given)
    × (back new (i + size given) ≡ back t i)
boundary-behind_given t i given b = let is = boundary-behind t i given (i + size given) b refl refl in (refl, is.0, is.1, is.2)

-- and the same of one character, which `grind` sees without the `++`
pub boundary-behind_char : (t : List ℕ) (i c : ℕ) → boundary t i ≡ true → let new = front t i ++ c ∷ back t i in
    (new ≡ new) × (boundary new (i + width c) ≡ true) × (front new (i + width c) ≡ front t i ++ c ∷ [])
    × (back new (i + width c) ≡ back t i)
boundary-behind_char t i c b =
    let is = boundary-behind t i (c ∷ []) (i + width c) b refl (omega arith) in (refl, is.0, is.1, is.2)

-- the place before the last character of what is before an index is a boundary: behind it is this character, and what was there
pub boundary-before : (t : List ℕ) (i : ℕ) (p : List ℕ) (c j : ℕ) → front t i ≡ p ++ c ∷ [] → j ≡ size p
    → (boundary t j ≡ true) × (front t j ≡ p) × (back t j ≡ c ∷ back t i)
boundary-before t i p c j is at =
    let parts : t ≡ p ++ c ∷ back t i =
    sym (front-back t i) ∙ ap (λ l. l ++ back t i) is ∙ append_assoc p (c ∷ []) (back t i) in
    let long = sym at in (
      ap (λ l. boundary l j) parts ∙ boundary-is p (c ∷ back t i) j long,
      ap (λ l. front l j) parts ∙ front-is p (c ∷ back t i) j long,
      ap (λ l. back l j) parts ∙ back-is p (c ∷ back t i) j long,
    )

-- the same at a boundary, in a form that `grind` finds: the place is as many bytes to the left as the character takes
pub boundary-before_char : (t : List ℕ) (i : ℕ) (p : List ℕ) (c : ℕ) → boundary t i ≡ true → front t i ≡ p ++ c ∷ []
    → (p ++ c ∷ [] ≡ front t i) × (width c ≤ i) × (boundary t (i - width c) ≡ true) × (front t (i - width c) ≡ p)
    × (back t (i - width c) ≡ c ∷ back t i)
boundary-before_char t i p c b is =
    let long : size p + width c ≡ i = omega (arith, ap size is, size-append p (c ∷ []), front-size t i b) in
    let place = boundary-before t i p c (i - width c) is (omega arith) in
    (sym is, omega arith, place.0, place.1, place.2)

-- the place behind the character at a boundary is a boundary, too: before it is what was there and this character. (`grind` finds it by
-- the first equation.)
pub boundary-after_char : (t : List ℕ) (i c : ℕ) (rest : List ℕ) → boundary t i ≡ true → back t i ≡ c ∷ rest
    → (c ∷ rest ≡ back t i) × (boundary t (i + width c) ≡ true) × (front t (i + width c) ≡ front t i ++ c ∷ [])
    × (back t (i + width c) ≡ rest)
boundary-after_char t i c rest b is =
    let before = front t i ++ c ∷ [] in
    let parts : t ≡ before ++ rest =
    sym (front-back t i) ∙ ap (λ l. front t i ++ l) is ∙ sym (append_assoc (front t i) (c ∷ []) rest) in
    let long : size before ≡ i + width c = omega (arith, size-append (front t i) (c ∷ []), front-size t i b) in (
      sym is,
      ap (λ l. boundary l (i + width c)) parts ∙ boundary-is before rest (i + width c) long,
      ap (λ l. front l (i + width c)) parts ∙ front-is before rest (i + width c) long,
      ap (λ l. back l (i + width c)) parts ∙ back-is before rest (i + width c) long,
    )
