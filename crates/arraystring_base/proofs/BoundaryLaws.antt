-- Laws of boundaries, and of the parts on each side of one.
use Rattle.std.proofs.Common.{◌≡◌, ℕ, ◌+◌, ◌-◌, ◌≤◌, List, [], ◌∷◌, ◌++◌, length, take, drop, refl, sym, ap, ◌∙◌, arith, IsUtf8, IsCharBoundary, chars, Bool, true, append_assoc, take_at, length-take-le, take-append-drop, ◌↔◌, eq-eqb, subst}
use Rattle.std.proofs.lemmas.Bool.{eqb-true}
use Rattle.std.proofs.lemmas.Bool.Decides.{same_from_decides, nat_tests}
use Rattle.std.proofs.lemmas.List.{append-nil, drop_at}
use Rattle.std.proofs.lemmas.Str.{chars-append, IsUtf8-take, IsCharBoundary-at_seam, cons_from_encodes}
use Rattle.arraystring_base.specs.Text.{IsText, width, utf8, size, bytes, front, back, boundary, IsPrefix}
use Rattle.arraystring_base.proofs.TextLaws.{size-is, size-borrowed, size-append, width-bounds, utf8-is, bytes-chars, bytes-is, bytes-append, bytes-utf8, chars-bytes, text-chars}
use Rattle.arraystring_base.proofs.CutLaws.{cut-is, cut-all, cut-cut}
pub use Rattle.arraystring_base.proofs.CutLaws.{front-back}

-- where two texts are joined
pub front-is : (p q : List ℕ) (i : ℕ) → size p ≡ i → front (p ++ q) i ≡ p
front-is p q i e = cut-is p q i (omega arith) (λ c es d. omega (arith, width-bounds c))

-- no character is of width 0, so none of q is passed over; each of p is, since p has the size i
pub back-is : (p q : List ℕ) (i : ℕ) → size p ≡ i → back (p ++ q) i ≡ q
back-is [] [] i e = refl
back-is [] (c ∷ es) i e = grind (arith, nat_tests, width-bounds c)
back-is (c ∷ p) q i e = grind (arith, nat_tests, back-is p q (i - width c) (omega arith))

pub boundary-is : (p q : List ℕ) (i : ℕ) → size p ≡ i → boundary (p ++ q) i ≡ true
boundary-is p q i e = eq-eqb _ i (ap size (front-is p q i e) ∙ e)

pub front-size : (t : List ℕ) (i : ℕ) → boundary t i ≡ true → size (front t i) ≡ i
front-size t i b = eqb-true _ i b

-- the start and the end
pub front-start : (t : List ℕ) → front t 0 ≡ []
front-start t = front-is [] t 0 refl

pub back-start : (t : List ℕ) → back t 0 ≡ t
back-start t = back-is [] t 0 refl

pub boundary-end : (t : List ℕ) → boundary t (size t) ≡ true
boundary-end t = rw append-nil at (boundary-is t [] (size t) refl)

pub front-end : (t : List ℕ) → front t (size t) ≡ t
front-end t = cut-all (omega arith)

pub back-end : (t : List ℕ) → back t (size t) ≡ []
back-end t = rw append-nil at (back-is t [] (size t) refl)

-- the bytes on each side of a boundary
module _ (t : List ℕ) (i : ℕ) (b : boundary t i ≡ true) where
  bytes-parts : bytes t ≡ bytes (front t i) ++ bytes (back t i)
  bytes-parts = rw front-back at (bytes-append (front t i) (back t i))

  front-length : length (bytes (front t i)) ≡ i
  front-length = rw size-is at (front-size t i b)

  pub bytes-front : take i (bytes t) ≡ bytes (front t i)
  bytes-front = rw bytes-parts (take_at _ _ i front-length)

  pub bytes-back : drop i (bytes t) ≡ bytes (back t i)
  bytes-back = rw bytes-parts (drop_at _ _ i front-length)

  pub back-size : size (back t i) ≡ size t - i
  back-size = omega (arith, front-size t i b, ap size (front-back t i), size-append (front t i) (back t i))

  pub boundary-within : i ≤ size t
  boundary-within = omega (arith, front-size t i b, ap size (front-back t i), size-append (front t i) (back t i))

-- the parts of a text are texts
pub prefix-text : (a b : List ℕ) → IsText (a ++ b) → IsText a
prefix-text [] b is = tt
prefix-text (c ∷ a) b is = (is.0, prefix-text a b is.1)

pub trailing-text : (a b : List ℕ) → IsText (a ++ b) → IsText b
trailing-text [] b is = is
trailing-text (c ∷ a) b is = trailing-text a b is.1

pub front-text : (t : List ℕ) (i : ℕ) → IsText t → IsText (front t i)
front-text t i is = prefix-text (front t i) (back t i) (rw (front-back t i) is)

pub back-text : (t : List ℕ) (i : ℕ) → IsText t → IsText (back t i)
back-text t i is = trailing-text (front t i) (back t i) (rw (front-back t i) is)

-- a boundary of the text is one of its bytes
pub boundary-to_bytes : (t bs : List ℕ) (i : ℕ) → IsUtf8 bs → bytes t ≡ bs → boundary t i ≡ true → IsCharBoundary bs i
boundary-to_bytes t bs i u e b =
    let is : IsText t = subst IsText (chars-bytes u (sym e)) (text-chars u) in
    rw (front-length t i b) at
    (IsCharBoundary-at_seam bs (bytes (front t i)) (bytes (back t i)) (sym e ∙ bytes-parts t i b)
    (bytes-utf8 _ (back-text t i is)))

pub boundary-from_bytes : (bs : List ℕ) (i : ℕ) → IsUtf8 bs → IsCharBoundary bs i → boundary (chars bs) i ≡ true
boundary-from_bytes bs i u b =
    let within : i ≤ length bs = b.0 in
    let long : size (chars (take i bs)) ≡ i = rw (size-borrowed (IsUtf8-take bs i u b)) (length-take-le i bs within) in
    let parts : chars bs ≡ chars (take i bs) ++ chars (drop i bs) =
    rw take-append-drop at (chars-append (take i bs) (drop i bs) (IsUtf8-take bs i u b)) in
    rw parts (boundary-is _ _ i long)

pub boundary-bytes : (bs : List ℕ) (i : ℕ) (r : Bool) → IsUtf8 bs → ((r ≡ true) ↔ IsCharBoundary bs i)
    → r ≡ boundary (chars bs) i
boundary-bytes bs i r u is =
    same_from_decides {P = IsCharBoundary bs i} r (boundary (chars bs) i) is
    (boundary-to_bytes (chars bs) bs i u (bytes-chars u), boundary-from_bytes bs i u)

-- the character that begins at a boundary
module _ (t : List ℕ) (i : ℕ) (b : boundary t i ≡ true) where
  pub next-char : (c : ℕ) (es : List ℕ) → back t i ≡ c ∷ es
      → (boundary t (i + width c) ≡ true) × (back t (i + width c) ≡ es) × (front t (i + width c) ≡ front t i ++ c ∷ [])
  next-char c es e =
      let before = front t i ++ c ∷ [] in
      let parts : t ≡ before ++ es = rw (append_assoc, ← e, front-back) in
      let long : size before ≡ i + width c = omega (arith, size-append (front t i) (c ∷ []), front-size t i b) in (
        rw parts (boundary-is before es _ long),
        rw parts (back-is before es _ long),
        ap (λ l. front l (i + width c)) parts ∙ front-is before es _ long,
      )

  pub first-char : (c : ℕ) (rest : List ℕ) → drop i (bytes t) ≡ utf8 c ++ rest → (es : List ℕ) × (back t i ≡ c ∷ es)
  first-char c rest e =
      let found = cons_from_encodes (back t i) rest c (rw (bytes-back t i b, bytes-is, utf8-is) at e) in (found.0, found.1)

-- the part between two boundaries
pub boundary-in_front : (t : List ℕ) (start end : ℕ) → start ≤ end → boundary t start ≡ true
    → boundary (front t end) start ≡ true
boundary-in_front t start end le b = rw (cut-cut t le) b

pub bytes-part : (t : List ℕ) (start end : ℕ) → start ≤ end → boundary t start ≡ true → boundary t end ≡ true
    → drop start (take end (bytes t)) ≡ bytes (back (front t end) start)
bytes-part t start end le b d =
    rw (bytes-front t end d) (bytes-back (front t end) start (boundary-in_front t start end le b))

-- a boundary is the size of a prefix
pub boundary-prefix : (t : List ℕ) (i : ℕ) → (boundary t i ≡ true) ↔ ((p : List ℕ) × IsPrefix p t × (size p ≡ i))
boundary-prefix t i = (
  λ b. (front t i, (back t i, sym (front-back t i)), front-size t i b),
  λ h. rw h.1.1 (boundary-is h.0 h.1.0 i h.2),
)

pub ruleset boundary_prefix = (boundary-prefix)

pub ruleset parts = (front-back, front-size, front-is, back-is, back-start)
