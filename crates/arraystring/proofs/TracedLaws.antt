-- Laws of a loop that makes a text, and remembers something of the items so far (specs/Loops).
use Rattle.std.proofs.Common.{◌≡◌, ℕ, ◌+◌, ◌<◌, ◌≤◌, List, [], ◌∷◌, ◌++◌, ap, sym, refl, ◌∙◌, arith, length, take, get_or, zero, suc, add-one, Option, Some, None, IsUtf8, MatchOption, append_assoc, chars}
use Rattle.std.proofs.lemmas.List.{append-nil}
use Rattle.std.proofs.iter.TextItems.{spells}
use Rattle.std.specs.List.{slice_get}
use Rattle.std.specs.declared.str.Chars.{Chars}
use Rattle.std.specs.Iterator.{Yields}
use Rattle.arraystring_base.specs.Text.{size}
use Rattle.arraystring_base.proofs.TextLaws.{size-append}
use Rattle.arraystring.proofs.LoopLaws.{chars-left}
use Rattle.arraystring.specs.Loops.{memory, flat_map_with_memory}

module _ {S X : Type 0} (next : S → X → S) where
  -- what is remembered after one more
  pub memory-push : (s : S) (xs : List X) (x : X) → memory next s (xs ++ x ∷ []) ≡ next (memory next s xs) x
  memory-push s [] x = refl
  memory-push s (y ∷ xs) x = memory-push (next s y) xs x

  module _ (piece : S → X → List ℕ) where
    -- the pieces of the first items, and then those of the others
    pub traced-append : (s : S) (xs ys : List X)
        → flat_map_with_memory next piece s (xs ++ ys) ≡ flat_map_with_memory next piece s xs ++ flat_map_with_memory next piece (memory next s xs) ys
    traced-append s [] ys = refl
    traced-append s (x ∷ xs) ys =
        ap (λ l. piece s x ++ l) (traced-append (next s x) xs ys)
        ∙ sym (append_assoc (piece s x) (flat_map_with_memory next piece (next s x) xs) (flat_map_with_memory next piece (memory next (next s x) xs) ys))

    -- the pieces of one more
    pub traced-push : (s : S) (xs : List X) (x : X)
        → flat_map_with_memory next piece s (xs ++ x ∷ []) ≡ flat_map_with_memory next piece s xs ++ piece (memory next s xs) x
    traced-push s xs x =
        traced-append s xs (x ∷ [])
        ∙ ap (λ l. flat_map_with_memory next piece s xs ++ l) (append-nil (piece (memory next s xs) x))

-- when a character is left, the pieces so far, its own and more are all; when none is left, the pieces so far are all
traced-left : {S : Type 0} (next : S → ℕ → S) (piece : S → ℕ → List ℕ) (m : S) (s t : Chars) (xs : List ℕ) → IsUtf8 s.rest.now
    → Yields spells s xs t
    → MatchOption (slice_get (chars t.rest.now) 0) (flat_map_with_memory next piece m xs ≡ flat_map_with_memory next piece m (chars s.rest.now))
    (λ x. (size (flat_map_with_memory next piece m xs) + size (piece (memory next m xs) x) ≤ size (flat_map_with_memory next piece m (chars s.rest.now)))
    × ((more : List ℕ) × (flat_map_with_memory next piece m (chars s.rest.now)
    ≡ (flat_map_with_memory next piece m xs ++ piece (memory next m xs) x) ++ more)))
traced-left next piece m s t xs u y = go (chars t.rest.now) (chars-left s t xs u y)
  where
    go : (left : List ℕ) → chars s.rest.now ≡ xs ++ left
        → MatchOption (slice_get left 0) (flat_map_with_memory next piece m xs ≡ flat_map_with_memory next piece m (chars s.rest.now))
        (λ x. (size (flat_map_with_memory next piece m xs) + size (piece (memory next m xs) x) ≤ size (flat_map_with_memory next piece m (chars s.rest.now)))
        × ((more : List ℕ) × (flat_map_with_memory next piece m (chars s.rest.now)
        ≡ (flat_map_with_memory next piece m xs ++ piece (memory next m xs) x) ++ more)))
    go [] is = ap (flat_map_with_memory next piece m) (sym (append-nil xs) ∙ sym is)
    go (x ∷ left) is =
        let at = memory next m xs in
        let so_far = flat_map_with_memory next piece m xs in
        let rest = flat_map_with_memory next piece (next at x) left in
        let whole = ap (flat_map_with_memory next piece m) is ∙ traced-append next piece m xs (x ∷ left) ∙ sym (append_assoc so_far (piece at x) rest) in (
          omega (arith, ap size whole, size-append (so_far ++ piece at x) rest, size-append so_far (piece at x)),
          (rest, whole),
        )

-- the first of two facts
first_part : {A : Type 0} (N : Type 0) (P Q : A → Type 0) (o : Option A) → MatchOption o N (λ x. P x × Q x) → MatchOption o N P
first_part N P Q None h = h
first_part N P Q (Some x) h = h.0

-- in the form that `grind` finds: it looks for the pieces so far, for what is left, and for the text
pub traced-chars : {S : Type 0} (next : S → ℕ → S) (piece : S → ℕ → List ℕ) (m : S) (xs : List ℕ)
    → (flat_map_with_memory next piece m xs ≡ flat_map_with_memory next piece m xs)
    × ((t : Chars) → (chars t.rest.now ≡ chars t.rest.now)
    × ((s : Chars) → IsUtf8 s.rest.now → Yields spells s xs t
    → MatchOption (slice_get (chars t.rest.now) 0) (flat_map_with_memory next piece m xs ≡ flat_map_with_memory next piece m (chars s.rest.now))
    (λ x. size (flat_map_with_memory next piece m xs) + size (piece (memory next m xs) x) ≤ size (flat_map_with_memory next piece m (chars s.rest.now)))))
traced-chars next piece m xs = (refl, λ t. (refl, λ s u y. first_part _ _ _ (slice_get (chars t.rest.now) 0) (traced-left next piece m s t xs u y)))

-- a slice, of which the loop has taken the items before `i`
module _ {S A : Type 0} (next : S → A → S) (piece : S → A → List ℕ) where
  -- what is remembered, the pieces and their size, with the next item, whatever stands for an item past the end
  traced-next : (m : S) (xs : List A) (i : ℕ) → i < length xs → (past : A)
      → (memory next m (take (suc i) xs) ≡ next (memory next m (take i xs)) (get_or xs i past))
      × (flat_map_with_memory next piece m (take (suc i) xs)
      ≡ flat_map_with_memory next piece m (take i xs) ++ piece (memory next m (take i xs)) (get_or xs i past))
      × (size (flat_map_with_memory next piece m (take i xs)) + size (piece (memory next m (take i xs)) (get_or xs i past))
      ≤ size (flat_map_with_memory next piece m xs))
  traced-next m [] i below past = absurd (omega arith)
  traced-next m (x ∷ xs) zero below past =
      (refl, append-nil (piece m x), omega (arith, size-append (piece m x) (flat_map_with_memory next piece (next m x) xs)))
  traced-next m (x ∷ xs) (suc i) below past =
      let rest = traced-next (next m x) xs i (omega arith) past in
      let so_far = flat_map_with_memory next piece (next m x) (take i xs) in
      let at = memory next (next m x) (take i xs) in (
        rest.0,
        ap (λ l. piece m x ++ l) rest.1 ∙ sym (append_assoc (piece m x) so_far (piece at (get_or xs i past))),
        omega (
          arith,
          size-append (piece m x) so_far,
          size-append (piece m x) (flat_map_with_memory next piece (next m x) xs),
          rest.2,
        ),
      )

-- the same in a form that `grind` finds: it looks for the pieces so far, which the first part of the conclusion shows
pub traced-item : {S A : Type 0} (next : S → A → S) (piece : S → A → List ℕ) (m : S) (xs : List A) (i : ℕ) → i < length xs
    → (flat_map_with_memory next piece m (take i xs) ≡ flat_map_with_memory next piece m (take i xs))
    × ((past : A) → (memory next m (take (i + 1) xs) ≡ next (memory next m (take i xs)) (get_or xs i past))
    × (flat_map_with_memory next piece m (take (i + 1) xs)
    ≡ flat_map_with_memory next piece m (take i xs) ++ piece (memory next m (take i xs)) (get_or xs i past))
    × (size (flat_map_with_memory next piece m (take i xs)) + size (piece (memory next m (take i xs)) (get_or xs i past))
    ≤ size (flat_map_with_memory next piece m xs)))
traced-item next piece m xs i below = (refl, λ past. rw (add-one i) (traced-next next piece m xs i below past))

-- `traced-chars` with the rest that is left, which a loop wants that cuts
pub traced-rest : {S : Type 0} (next : S → ℕ → S) (piece : S → ℕ → List ℕ) (m : S) (xs : List ℕ)
    → (flat_map_with_memory next piece m xs ≡ flat_map_with_memory next piece m xs)
    × ((t : Chars) → (chars t.rest.now ≡ chars t.rest.now)
    × ((s : Chars) → IsUtf8 s.rest.now → Yields spells s xs t
    → MatchOption (slice_get (chars t.rest.now) 0) (flat_map_with_memory next piece m xs ≡ flat_map_with_memory next piece m (chars s.rest.now))
    (λ x. (size (flat_map_with_memory next piece m xs) + size (piece (memory next m xs) x) ≤ size (flat_map_with_memory next piece m (chars s.rest.now)))
    × ((more : List ℕ) × (flat_map_with_memory next piece m (chars s.rest.now)
    ≡ (flat_map_with_memory next piece m xs ++ piece (memory next m xs) x) ++ more)))))
traced-rest next piece m xs = (refl, λ t. (refl, λ s u y. traced-left next piece m s t xs u y))
