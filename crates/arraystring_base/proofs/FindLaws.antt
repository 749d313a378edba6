-- Laws of std's `find` and `split_once` at a character: where it first stands in a text.
use Rattle.std.proofs.Common.{◌≡◌, ℕ, suc, ◌+◌, ◌<◌, ◌≤◌, List, [], ◌∷◌, ◌++◌, length, take, drop, refl, sym, ap, ◌∙◌, arith, IsUtf8, chars, Bool, true, false, append_assoc, take_at, take-append-drop, length-append, length-drop, length-take-le, eq-eqb, subst, Option, Some, None, MatchOption}
use Rattle.std.specs.Prelude.{◌==◌}
use Rattle.std.specs.Str.{NonePass, NoCharPasses, encode_utf8_all}
use Rattle.std.specs.Char.{encode_utf8}
use Rattle.std.specs.List.{position_or_len, before_first, after_first}
use Rattle.std.specs.Str.Pattern.{FindsChar, MatchBeginsAt, SplitsAroundMatch}
use Rattle.std.specs.Borrow.{Bor}
use Rattle.std.proofs.lemmas.List.{drop_at}
use Rattle.std.proofs.lemmas.Str.{encodes-chars, encodes_same, cons_from_encodes, length-encode, len_utf8_bounds}
use Rattle.arraystring_base.specs.Text.{IsText, size, front, back, boundary}
use Rattle.arraystring_base.proofs.TextLaws.{bytes-is, size-is, size-append, width-bounds, chars-bytes, bytes-utf8, text-chars}
use Rattle.arraystring_base.proofs.BoundaryLaws.{boundary-is, front-is, back-is, prefix-text, trailing-text}

-- t is `before`, the character c and `after`, and c is not in `before`
pub record IsSplitAtFirst (c : ℕ) (t before after : List ℕ) : Type 0 where
  pub parts : t ≡ before ++ c ∷ after
  pub none_before : NonePass (λ d. d == c) before

-- the first place that passes
position-none : (p : ℕ → Bool) (xs : List ℕ) → NonePass p xs → position_or_len p xs ≡ length xs
position-none p [] none = refl
position-none p (x ∷ xs) none = rw none.0 (omega (arith, position-none p xs none.1))

position-seam : (p : ℕ → Bool) (xs : List ℕ) (c : ℕ) (ys : List ℕ) → NonePass p xs → p c ≡ true
    → position_or_len p (xs ++ c ∷ ys) ≡ length xs
position-seam p [] c ys none is = rw is refl
position-seam p (x ∷ xs) c ys none is = rw none.0 (omega (arith, position-seam p xs c ys none.1 is))

-- bytes that are those of characters and one more spell these characters and the one
encodes-seam : (cs t rest : List ℕ) (c : ℕ) → encode_utf8_all t ≡ encode_utf8_all cs ++ (encode_utf8 c ++ rest)
    → (es : List ℕ) × (t ≡ cs ++ c ∷ es) × (encode_utf8_all es ≡ rest)
encodes-seam [] t rest c e = cons_from_encodes t rest c e
encodes-seam (d ∷ ds) t rest c e =
    let first = cons_from_encodes t _ d (e ∙ append_assoc (encode_utf8 d) (encode_utf8_all ds) (encode_utf8 c ++ rest)) in
    let others = encodes-seam ds first.0 rest c first.2 in
    (others.0, first.1 ∙ ap (λ l. d ∷ l) others.1, others.2)

-- what is split at the first c, in std's words
module _ {c : ℕ} {t before after : List ℕ} (split : IsSplitAtFirst c t before after) where
  split-position : position_or_len (λ d. d == c) t ≡ length before
  split-position = rw split.parts (position-seam (λ d. d == c) before c after split.none_before (eq-eqb c c refl))

  pub split-inside : position_or_len (λ d. d == c) t < length t
  split-inside = omega (arith, split-position, ap length split.parts, length-append before (c ∷ after))

  pub split-before : before ≡ before_first (λ d. d == c) t
  split-before = rw (split-position, split.parts, take_at before (c ∷ after) (length before) refl)

  pub split-after : after ≡ after_first (λ d. d == c) t
  split-after =
      rw (
        split-position,
        split.parts,
        ← append_assoc before (c ∷ []) after,
        drop_at (before ++ c ∷ []) after (length before + 1) (length-append before (c ∷ [])),
      )

  split-at : (i : ℕ) → size before ≡ i
      → (i < size t) × (boundary t i ≡ true) × (front t i ≡ before_first (λ d. d == c) t)
      × (back t i ≡ c ∷ after_first (λ d. d == c) t)
  split-at i long =
      rw (← split-before, ← split-after, split.parts) (
        omega (arith, size-append before (c ∷ after), width-bounds c),
        boundary-is before (c ∷ after) i long,
        front-is before (c ∷ after) i long,
        back-is before (c ∷ after) i long,
      )

-- the bytes of a text spell it
spelled : (t part : List ℕ) → IsText t → encode_utf8_all t ≡ part → chars part ≡ t
spelled t part is e = rw (← e, ← bytes-is) (chars-bytes (bytes-utf8 t is) refl)

module _ {bs : List ℕ} (u : IsUtf8 bs) (c : ℕ) where
  -- what has no c
  none-position : NoCharPasses (λ d. d == c) bs → position_or_len (λ d. d == c) (chars bs) ≡ length (chars bs)
  none-position none =
      position-none (λ d. d == c) (chars bs)
      (subst (NonePass (λ d. d == c)) (encodes_same none.0 (chars bs) (none.1 ∙ sym (encodes-chars bs u))) none.2)

  -- the text round the character that was found
  module _ {i j : ℕ} (found : FindsChar c bs (Some (i, j))) where
    seam : (es : List ℕ) × (chars bs ≡ found.0.0 ++ c ∷ es) × (encode_utf8_all es ≡ drop j bs)
    seam =
        encodes-seam found.0.0 (chars bs) (drop j bs) c
        (encodes-chars bs u ∙ sym (take-append-drop i bs) ∙ (λ k. sym found.0.1 k ++ found.1.split k))

    split : IsSplitAtFirst c (chars bs) found.0.0 seam.0
    split = record { parts = seam.1; none_before = found.0.2 }

    -- as many bytes as are before it
    size-before : size found.0.0 ≡ i
    size-before =
        let within : i ≤ length bs =
        omega (
          arith,
          ap length found.1.split,
          length-drop i bs,
          length-append (encode_utf8 c) (drop j bs),
          length-encode c,
          (len_utf8_bounds c).0,
        ) in
        rw (size-is, bytes-is, found.0.1) (length-take-le i bs within)

    is-text : IsText (found.0.0 ++ c ∷ seam.0)
    is-text = subst IsText seam.1 (text-chars u)

    chars-before : chars (take i bs) ≡ found.0.0
    chars-before = spelled found.0.0 (take i bs) (prefix-text found.0.0 (c ∷ seam.0) is-text) found.0.1

    chars-after : chars (drop j bs) ≡ seam.0
    chars-after = spelled seam.0 (drop j bs) (trailing-text found.0.0 (c ∷ seam.0) is-text).1 seam.2

  -- `find`: where it gives a place, this is a boundary, before it is what stands before the first c, and c begins there;
  -- where it gives none, no c is in the text
  pub find-first : (r : Option ℕ) → MatchOption r (FindsChar c bs None) (MatchBeginsAt (FindsChar c) bs)
      → MatchOption r (position_or_len (λ d. d == c) (chars bs) ≡ length (chars bs))
      (λ i. (i < size (chars bs)) × (boundary (chars bs) i ≡ true) × (front (chars bs) i ≡ before_first (λ d. d == c) (chars bs))
      × (back (chars bs) i ≡ c ∷ after_first (λ d. d == c) (chars bs)))
  find-first None found = none-position found
  find-first (Some i) found = split-at (split found.1) i (size-before found.1)

  -- `split_once`: where it gives two parts, they stand before and after the first c; where it gives none, no c is in the text
  pub split_once-first : (r : Option (Bor (List ℕ) × Bor (List ℕ)))
      → MatchOption r (FindsChar c bs None) (λ x. SplitsAroundMatch (FindsChar c) bs x.0.now x.1.now)
      → MatchOption r (position_or_len (λ d. d == c) (chars bs) ≡ length (chars bs))
      (λ x. (position_or_len (λ d. d == c) (chars bs) < length (chars bs))
      × (chars x.0.now ≡ before_first (λ d. d == c) (chars bs))
      × (chars x.1.now ≡ after_first (λ d. d == c) (chars bs)) × (chars bs ≡ chars x.0.now ++ c ∷ chars x.1.now)
      × NonePass (λ d. d == c) (chars x.0.now))
  split_once-first None found = none-position found
  split_once-first (Some x) found =
      let is = split found.2 in
      rw (found.3, found.4, chars-before found.2, chars-after found.2)
      (split-inside is, split-before is, split-after is, is.parts, is.none_before)

-- what stands before the first character that passes has none that does
pub before_first-none : (p : ℕ → Bool) (t : List ℕ) → NonePass p (before_first p t)
before_first-none p [] = tt
before_first-none p (d ∷ ds) = go (p d) refl (before_first-none p ds)
  where
    go : (b : Bool) → p d ≡ b → NonePass p (before_first p ds) → NonePass p (before_first p (d ∷ ds))
    go true is none = rw is tt
    go false is none =
        let more : 1 + position_or_len p ds ≡ suc (position_or_len p ds) = omega arith in
        rw is (subst (λ n. NonePass p (take n (d ∷ ds))) (sym more) (is, none))

pub ruleset find_first = (find-first)
