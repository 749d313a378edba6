-- Laws of std's `rfind` and `rsplit_once` at a character: where it last stands in a text.
use Rattle.std.proofs.Common.{◌≡◌, ℕ, ◌<◌, List, [], ◌∷◌, ◌++◌, length, take, drop, refl, sym, ap, ◌∙◌, arith, IsUtf8, chars, true, subst, Option, Some, None, MatchOption, eq-eqb}
use Rattle.std.specs.Prelude.{◌==◌}
use Rattle.std.specs.Str.{NonePass, NoCharPasses}
use Rattle.std.specs.List.{position_or_len, before_last, after_last}
use Rattle.std.specs.Str.Pattern.{RFindsChar, MatchBeginsAt, SplitsAroundMatch}
use Rattle.std.specs.Borrow.{Bor}
use Rattle.std.proofs.lemmas.Str.{encodes-chars, encodes_same}
use Rattle.arraystring_base.specs.Text.{IsText, size, bytes, front, back, boundary}
use Rattle.arraystring_base.proofs.TextLaws.{bytes-is, bytes_same, bytes-chars, bytes-utf8, chars-bytes, size-append, text-chars, utf8-is, width-bounds}
use Rattle.arraystring_base.proofs.BoundaryLaws.{back-text, bytes-front, front-back, front-size, front-text}
use Rattle.arraystring.proofs.CharacterLaws.{spelled-at}
use Rattle.arraystring.proofs.SplitLaws.{joined-last, none-last, position-inside}

-- t is `before`, the character c and `after`, and c is not in `after`
record IsSplitAtLast (c : ℕ) (t before after : List ℕ) : Type 0 where
  parts : t ≡ before ++ c ∷ after
  none_after : NonePass (λ d. d == c) after

-- bytes that are those of a text spell it
spelled : (t part : List ℕ) → IsText t → part ≡ bytes t → chars part ≡ t
spelled t part is e = chars-bytes (rw e (bytes-utf8 t is)) e

-- what is split at the last c, in std's words
module _ {c : ℕ} {t before after : List ℕ} (split : IsSplitAtLast c t before after) where
  split-last : (before_last (λ d. d == c) t ≡ before) × (after_last (λ d. d == c) t ≡ after)
  split-last = rw split.parts (joined-last (λ d. d == c) before c after (eq-eqb c c refl) split.none_after)

  split-inside : position_or_len (λ d. d == c) t < length t
  split-inside = rw split.parts (position-inside (λ d. d == c) before c after (eq-eqb c c refl))

module _ {bs : List ℕ} (u : IsUtf8 bs) (c : ℕ) where
  -- what has no c
  none-found : NoCharPasses (λ d. d == c) bs
      → (position_or_len (λ d. d == c) (chars bs) ≡ length (chars bs))
      × (before_last (λ d. d == c) (chars bs) ≡ []) × (after_last (λ d. d == c) (chars bs) ≡ chars bs)
  none-found none =
      none-last (λ d. d == c) (chars bs)
      (subst (NonePass (λ d. d == c)) (encodes_same none.0 (chars bs) (none.1 ∙ sym (encodes-chars bs u))) none.2)

  -- the text round the character that was found
  module _ {i j : ℕ} (found : RFindsChar c bs (Some (i, j))) where
    place : (boundary (chars bs) i ≡ true) × ((es : List ℕ) × (back (chars bs) i ≡ c ∷ es) × (bytes es ≡ drop j bs))
    place = spelled-at u i c (drop j bs) (rw utf8-is found.1.split)

    behind : place.1.0 ≡ found.0.0
    behind = bytes_same (place.1.2 ∙ sym found.0.1 ∙ sym (bytes-is found.0.0))

    split : IsSplitAtLast c (chars bs) (front (chars bs) i) place.1.0
    split =
        record {
          parts = sym (front-back (chars bs) i) ∙ ap (λ l. front (chars bs) i ++ l) place.1.1;
          none_after = subst (NonePass (λ d. d == c)) (sym behind) found.0.2;
        }

    within : i < size (chars bs)
    within =
        omega (
          arith,
          ap size split.parts,
          size-append (front (chars bs) i) (c ∷ place.1.0),
          front-size (chars bs) i place.0,
          width-bounds c,
        )

    chars-before : chars (take i bs) ≡ front (chars bs) i
    chars-before =
        spelled (front (chars bs) i) (take i bs) (front-text (chars bs) i (text-chars u))
        (ap (take i) (sym (bytes-chars u)) ∙ bytes-front (chars bs) i place.0)

    chars-after : chars (drop j bs) ≡ place.1.0
    chars-after =
        let texts : IsText (c ∷ place.1.0) = subst IsText place.1.1 (back-text (chars bs) i (text-chars u)) in
        spelled place.1.0 (drop j bs) texts.1 (sym place.1.2)

  -- `rfind`: where it gives a place, this is a boundary, before it is what stands before the last c, and c begins there;
  -- where it gives none, no c is in the text
  pub rfind-last : (r : Option ℕ) → MatchOption r (RFindsChar c bs None) (MatchBeginsAt (RFindsChar c) bs)
      → MatchOption r ((position_or_len (λ d. d == c) (chars bs) ≡ length (chars bs))
      × (before_last (λ d. d == c) (chars bs) ≡ []) × (after_last (λ d. d == c) (chars bs) ≡ chars bs))
      (λ i. (i < size (chars bs)) × (boundary (chars bs) i ≡ true) × (front (chars bs) i ≡ before_last (λ d. d == c) (chars bs))
      × (back (chars bs) i ≡ c ∷ after_last (λ d. d == c) (chars bs)))
  rfind-last None found = none-found found
  rfind-last (Some i) found =
      let is = split-last (split found.1) in
      let at = place found.1 in
      (within found.1, at.0, sym is.0, at.1.1 ∙ ap (λ l. c ∷ l) (sym is.1))

  -- `rsplit_once`: where it gives two parts, they stand before and after the last c; where it gives none, no c is in the text
  pub rsplit_once-last : (r : Option (Bor (List ℕ) × Bor (List ℕ)))
      → MatchOption r (RFindsChar c bs None) (λ x. SplitsAroundMatch (RFindsChar c) bs x.0.now x.1.now)
      → MatchOption r ((position_or_len (λ d. d == c) (chars bs) ≡ length (chars bs))
      × (before_last (λ d. d == c) (chars bs) ≡ []) × (after_last (λ d. d == c) (chars bs) ≡ chars bs))
      (λ x. (chars x.0.now ≡ before_last (λ d. d == c) (chars bs))
      × (chars x.1.now ≡ after_last (λ d. d == c) (chars bs)) × (chars bs ≡ chars x.0.now ++ c ∷ chars x.1.now)
      × NonePass (λ d. d == c) (chars x.1.now) × (position_or_len (λ d. d == c) (chars bs) < length (chars bs)))
  rsplit_once-last None found = none-found found
  rsplit_once-last (Some x) found =
      let at = split found.2 in
      let is = split-last at in
      rw (found.3, found.4, chars-before found.2, chars-after found.2) (sym is.0, sym is.1, at.parts, at.none_after, split-inside at)
