-- Laws of a loop that makes a text: it appends a piece for each item of an iterator or of a slice, or one character many times.
use Rattle.std.proofs.Common.{◌≡◌, ℕ, ◌+◌, ◌*◌, ◌<◌, ◌≤◌, List, [], ◌∷◌, ◌++◌, ap, subst, sym, refl, ◌∙◌, arith, map, flat_map, length, length-append, take, get_or, replicate, zero, suc, add-one, Option, Some, None, IsUtf8, MatchOption, append_assoc, chars}
use Rattle.std.proofs.lemmas.Iterator.{YieldsList}
use Rattle.std.proofs.lemmas.Grind.{flat_map-append}
use Rattle.std.proofs.lemmas.List.{append-nil}
use Rattle.std.proofs.lemmas.Str.{chars_from_encodes, chars_past_char, IsUtf8-past_char}
use Rattle.std.specs.Str.{encode_utf8_all}
use Rattle.std.proofs.lemmas.List.Folds.{flat_map-map}
use Rattle.std.proofs.iter.Yields.{gives_left, gives_Drains}
use Rattle.std.proofs.iter.TextItems.{spells}
use Rattle.std.specs.List.{slice_get}
use Rattle.std.specs.declared.str.Chars.{Chars}
use Rattle.std.specs.Iterator.{AlwaysYields, Yields}
use Rattle.arraystring_base.specs.Text.{size, width}
use Rattle.arraystring_base.proofs.TextLaws.{size-append, size-borrowed, width-bounds}

-- an iterator that gives `all`, of which the loop has taken the items `xs`; `v` reads an item
module _ {S A B : Type 0} {steps : S → Option A → S → Type 0} {v : A → B} {s t : S} {all : List B} where
  -- when no item is left, the text is that of all
  pub pieces-all : YieldsList steps v s all → (xs : List A) → Yields steps s xs t → (piece : B → List ℕ)
      → {r : Option A} {u : S} → r ≡ None → steps t r u → flat_map (λ x. piece (v x)) xs ≡ flat_map piece all
  pieces-all gives xs taken piece {u = u} is step =
      let end = subst (λ r. steps t r u) is step in
      sym (flat_map-map piece v xs) ∙ ap (flat_map piece) (gives_Drains steps v xs all s gives.runs (u, (t, taken, end)))

  -- the text and the piece of the next item are no larger than the text of all
  pub pieces-more : YieldsList steps v s all → (xs : List A) → Yields steps s xs t → (piece : B → List ℕ)
      → {x : A} {r : Option A} {u : S} → r ≡ Some x → steps t r u
      → size (flat_map (λ x. piece (v x)) xs) + size (piece (v x)) ≤ size (flat_map piece all)
  pieces-more gives xs taken piece {x} {u = u} is step =
      let left = gives_left steps v xs all s t gives.runs taken in go left.0 left.1 left.2 (subst (λ r. steps t r u) is step)
    where
      go : (rest : List B) → all ≡ map v xs ++ rest → AlwaysYields steps v t rest → steps t (Some x) u
          → size (flat_map (λ x. piece (v x)) xs) + size (piece (v x)) ≤ size (flat_map piece all)
      go [] _ always next = absurd (always x u next)
      go (y ∷ rest) is always next =
          let same = ap (λ y. size (piece y)) (always.1 x u next).0 in
          let whole = ap size (ap (flat_map piece) is ∙ flat_map-append piece (map v xs) (y ∷ rest)) in
          omega (
            arith,
            same,
            whole,
            size-append (flat_map piece (map v xs)) (piece y ++ flat_map piece rest),
            size-append (piece y) (flat_map piece rest),
            ap size (flat_map-map piece v xs),
          )

-- a slice, of which the loop has taken the items before `i`
module _ {A : Type 0} (piece : A → List ℕ) where
  -- the text of their pieces and the piece of the next item are no larger than the text of all, whatever stands for an item past the end
  pub taken-more : (xs : List A) (i : ℕ) → i < length xs
      → (past : A) → size (flat_map piece (take i xs)) + size (piece (get_or xs i past)) ≤ size (flat_map piece xs)
  taken-more [] i below past = absurd (omega arith)
  taken-more (x ∷ xs) zero below past = omega (arith, size-append (piece x) (flat_map piece xs))
  taken-more (x ∷ xs) (suc i) below past =
      omega (
        arith,
        size-append (piece x) (flat_map piece (take i xs)),
        size-append (piece x) (flat_map piece xs),
        taken-more xs i (omega arith) past,
      )

  -- there is a next item, where no fact names it yet
  pub taken-next : (xs : List A) (i : ℕ) → i < length xs
      → (next : A) × (size (flat_map piece (take i xs)) + size (piece next) ≤ size (flat_map piece xs))
  taken-next [] i below = absurd (omega arith)
  taken-next (x ∷ xs) i below = (get_or (x ∷ xs) i x, taken-more (x ∷ xs) i below x)

-- both in a form that `grind` finds: it looks for the pieces so far, which the first part of the conclusion shows
pub taken-item : {A : Type 0} (piece : A → List ℕ) (xs : List A) (i : ℕ) → i < length xs
    → (flat_map piece (take i xs) ≡ flat_map piece (take i xs))
    × ((past : A) → size (flat_map piece (take i xs)) + size (piece (get_or xs i past)) ≤ size (flat_map piece xs))
    × ((next : A) × (size (flat_map piece (take i xs)) + size (piece next) ≤ size (flat_map piece xs)))
taken-item piece xs i below = (refl, taken-more piece xs i below, taken-next piece xs i below)

-- the pieces up to and with the next item have the size of those so far and of its own
taken-suc : {A : Type 0} (piece : A → List ℕ) (xs : List A) (i : ℕ) → i < length xs → (past : A)
    → size (flat_map piece (take (suc i) xs)) ≡ size (flat_map piece (take i xs)) + size (piece (get_or xs i past))
taken-suc piece [] i below past = absurd (omega arith)
taken-suc piece (x ∷ xs) zero below past = omega (arith, size-append (piece x) [])
taken-suc piece (x ∷ xs) (suc i) below past =
    omega (
      arith,
      size-append (piece x) (flat_map piece (take (suc i) xs)),
      size-append (piece x) (flat_map piece (take i xs)),
      taken-suc piece xs i (omega arith) past,
    )

-- in the form that `grind` finds, for a loop that keeps as many as fit
pub taken-with : {A : Type 0} (piece : A → List ℕ) (xs : List A) (i : ℕ) → i < length xs
    → (flat_map piece (take i xs) ≡ flat_map piece (take i xs))
    × ((past : A)
    → size (flat_map piece (take (i + 1) xs)) ≡ size (flat_map piece (take i xs)) + size (piece (get_or xs i past)))
taken-with piece xs i below = (refl, λ past. rw (add-one i) (taken-suc piece xs i below past))

-- the characters of a text `s`, of which a loop has taken `xs`, and `t` is left: they are `xs` and those of `t`
pub chars-left : (s t : Chars) (xs : List ℕ) → IsUtf8 s.rest.now → Yields spells s xs t → chars s.rest.now ≡ xs ++ chars t.rest.now
chars-left s t [] u y = ap (λ (k : Chars). chars k.rest.now) y
chars-left s t (x ∷ xs) u y =
    let later = IsUtf8-past_char s.rest.now y.0.rest.now x u y.1.0 in
    chars_past_char s.rest.now y.0.rest.now x u y.1.0 ∙ ap (λ l. x ∷ l) (chars-left y.0 t xs later y.2)

-- when a character is left, the pieces so far, its own and more are all; when none is left, the pieces so far are
pub chars-turn : (piece : ℕ → List ℕ) (s t : Chars) (xs : List ℕ) → IsUtf8 s.rest.now → Yields spells s xs t
    → MatchOption (slice_get (chars t.rest.now) 0) (flat_map piece xs ≡ flat_map piece (chars s.rest.now))
    (λ x. (size (flat_map piece xs) + size (piece x) ≤ size (flat_map piece (chars s.rest.now)))
    × ((more : List ℕ) × (flat_map piece (chars s.rest.now) ≡ (flat_map piece xs ++ piece x) ++ more)))
chars-turn piece s t xs u y = go (chars t.rest.now) (chars-left s t xs u y)
  where
    go : (left : List ℕ) → chars s.rest.now ≡ xs ++ left
        → MatchOption (slice_get left 0) (flat_map piece xs ≡ flat_map piece (chars s.rest.now))
        (λ x. (size (flat_map piece xs) + size (piece x) ≤ size (flat_map piece (chars s.rest.now)))
        × ((more : List ℕ) × (flat_map piece (chars s.rest.now) ≡ (flat_map piece xs ++ piece x) ++ more)))
    go [] is = ap (flat_map piece) (sym (append-nil xs) ∙ sym is)
    go (x ∷ left) is =
        let whole = ap (flat_map piece) is ∙ flat_map-append piece xs (x ∷ left) ∙ sym (append_assoc (flat_map piece xs) (piece x) (flat_map piece left)) in
        let sizes = ap size whole in (
          omega (arith, sizes, size-append (flat_map piece xs ++ piece x) (flat_map piece left), size-append (flat_map piece xs) (piece x)),
          (flat_map piece left, whole),
        )

-- in the form that `grind` finds: it looks for the pieces so far, for what is left, and for the text
pub taken-chars : (piece : ℕ → List ℕ) (xs : List ℕ) → (flat_map piece xs ≡ flat_map piece xs)
    × ((t : Chars) → (chars t.rest.now ≡ chars t.rest.now)
    × ((s : Chars) → IsUtf8 s.rest.now → Yields spells s xs t
    → MatchOption (slice_get (chars t.rest.now) 0) (flat_map piece xs ≡ flat_map piece (chars s.rest.now))
    (λ x. (size (flat_map piece xs) + size (piece x) ≤ size (flat_map piece (chars s.rest.now)))
    × ((more : List ℕ) × (flat_map piece (chars s.rest.now) ≡ (flat_map piece xs ++ piece x) ++ more)))))
taken-chars piece xs = (refl, λ t. (refl, λ s u y. chars-turn piece s t xs u y))

-- the pieces of one more
pub pieces-push : (piece : ℕ → List ℕ) (xs : List ℕ) (x : ℕ) → flat_map piece (xs ++ x ∷ []) ≡ flat_map piece xs ++ piece x
pieces-push piece xs x = flat_map-append piece xs (x ∷ []) ∙ ap (λ l. flat_map piece xs ++ l) (append-nil (piece x))

-- a character many times takes its width as often
pub size-replicate : (n c : ℕ) → size (replicate n c) ≡ n * width c
size-replicate zero c = omega arith
size-replicate (suc n) c = omega (arith, size-replicate n c)

-- when a character is left, those that a loop has taken and this one are no larger than the text, and no more than its characters; when
-- none is left, they are the text
taken-turn : (s t : Chars) (xs : List ℕ) → IsUtf8 s.rest.now → Yields spells s xs t
    → MatchOption (slice_get (chars t.rest.now) 0) (xs ≡ chars s.rest.now)
    (λ x. (size xs + width x ≤ size (chars s.rest.now)) × (length xs + 1 ≤ length (chars s.rest.now)))
taken-turn s t xs u y = go (chars t.rest.now) (chars-left s t xs u y)
  where
    go : (left : List ℕ) → chars s.rest.now ≡ xs ++ left
        → MatchOption (slice_get left 0) (xs ≡ chars s.rest.now)
        (λ x. (size xs + width x ≤ size (chars s.rest.now)) × (length xs + 1 ≤ length (chars s.rest.now)))
    go [] is = sym (append-nil xs) ∙ sym is
    go (x ∷ left) is =
        (omega (arith, ap size is, size-append xs (x ∷ left)), omega (arith, ap length is, length-append xs (x ∷ left)))

-- the characters that a loop has taken and the next one are no more than those of the text, and no larger, in a form that `grind` finds: it
-- looks for the size of those so far, for what is left, and for the text
pub taken-size : (xs : List ℕ) → (size xs ≡ size xs)
    × ((t : Chars) → (chars t.rest.now ≡ chars t.rest.now)
    × ((s : Chars) → IsUtf8 s.rest.now → Yields spells s xs t
    → MatchOption (slice_get (chars t.rest.now) 0) (xs ≡ chars s.rest.now)
    (λ x. (size xs + width x ≤ size (chars s.rest.now)) × (length xs + 1 ≤ length (chars s.rest.now)))))
taken-size xs = (refl, λ t. (refl, λ s u y. taken-turn s t xs u y))

-- a character more times takes its width more
replicate-less : (n m c : ℕ) → n < m → size (replicate n c) + width c ≤ size (replicate m c)
replicate-less n zero c lt = absurd (omega arith)
replicate-less zero (suc m) c lt = omega arith
replicate-less (suc n) (suc m) c lt = omega (arith, replicate-less n m c (omega arith))

-- a character more times takes its width more, in a form that `grind` finds: it looks for the character so many times, and for it more times
pub replicate-more : (n c : ℕ) → (replicate n c ≡ replicate n c)
    × ((m : ℕ) → n < m → (replicate m c ≡ replicate m c) × (size (replicate n c) + width c ≤ size (replicate m c)))
replicate-more n c = (refl, λ m lt. (refl, replicate-less n m c lt))

-- a text has no more characters than bytes
length-size : (t : List ℕ) → length t ≤ size t
length-size [] = omega arith
length-size (c ∷ t) = omega (arith, width-bounds c, length-size t)

-- when a character is left, fewer were taken than the text has bytes; when none is left, all were taken
walked-turn : (s t : Chars) (xs : List ℕ) → IsUtf8 s.rest.now → Yields spells s xs t
    → MatchOption (slice_get (chars t.rest.now) 0) (xs ≡ chars s.rest.now)
    (λ x. (length xs < size (chars s.rest.now)) × (length xs < length s.rest.now))
walked-turn s t xs u y = go (chars t.rest.now) (chars-left s t xs u y)
  where
    go : (left : List ℕ) → chars s.rest.now ≡ xs ++ left
        → MatchOption (slice_get left 0) (xs ≡ chars s.rest.now)
        (λ x. (length xs < size (chars s.rest.now)) × (length xs < length s.rest.now))
    go [] is = sym (is ∙ append-nil xs)
    go (x ∷ left) is =
        let below : length xs < size (chars s.rest.now) =
        omega (arith, ap size is, size-append xs (x ∷ left), length-size xs, width-bounds x) in
        (below, omega (arith, below, size-borrowed u))

-- in the form that `grind` finds, for a loop that makes no text: it looks for what is left
pub walked-chars : (t : Chars) → (chars t.rest.now ≡ chars t.rest.now)
    × ((s : Chars) (xs : List ℕ) → IsUtf8 s.rest.now → Yields spells s xs t
    → MatchOption (slice_get (chars t.rest.now) 0) (xs ≡ chars s.rest.now)
    (λ x. (length xs < size (chars s.rest.now)) × (length xs < length s.rest.now)))
walked-chars t = (refl, λ s xs u y. walked-turn s t xs u y)

-- in the form that `grind` finds, for `text.chars().count()`: it looks for the bytes of what was counted, and for the text
pub counted-chars : (cs : List ℕ) → (encode_utf8_all cs ≡ encode_utf8_all cs)
    × ((bs : List ℕ) → (chars bs ≡ chars bs) × (IsUtf8 bs → encode_utf8_all cs ≡ bs → cs ≡ chars bs))
counted-chars cs = (refl, λ bs. (refl, λ u e. chars_from_encodes cs bs u e))
