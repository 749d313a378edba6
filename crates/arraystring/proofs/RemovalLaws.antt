-- Laws of the rows that take out or change characters, but for those of ranges (specs/Edits).
-- Of each row: what holds after an `Ok` (`-made`) and after an `Err` (`-refused`), when the result is `Ok` (`-makes`), and
-- when it is which `Err` (`-past`, `-inside`). A law takes what its row takes after the text, and then facts.
-- After an `Ok` no test of the row holds, and an `Err` is that of the first that does. `grind` reads each test as the comparison
-- that it makes, one after the other; where a test asks for a boundary, the law that says whether it holds stands beside.
use Rattle.std.proofs.Common.{◌≡◌, ℕ, ◌-◌, ◌<◌, ◌≤◌, ◌⊎◌, List, [], ◌∷◌, ◌++◌, ap, sym, ◌∙◌, arith, true, false, refl, Option, Some, None, MatchOption, Result, Ok, Err, take, drop, length, length-append}
use Rattle.std.proofs.lemmas.Bool.{lt-leb, leb-false}
use Rattle.std.proofs.lemmas.List.{take-append-le}
use Rattle.std.proofs.lemmas.Bool.Decides.{nat_tests}
use Rattle.std.specs.Prelude.{slice_index}
use Rattle.arraystring_base.specs.Text.{size, front, back, boundary}
use Rattle.arraystring_base.proofs.TextLaws.{width-bounds, empty-size}
use Rattle.arraystring_base.proofs.BoundaryLaws.{back-size, back-start, front-start, boundary-is, boundary-within}
use Rattle.arraystring_base.specs.declared.error.Error.{Error}
use Rattle.arraystring_base.specs.declared.error.Error.TheVariants.{Utf8, OutOfBounds}
use Rattle.arraystring_core.specs.Edits.{Past, Inside, Makes, popping, truncation, removal, split, last_character, all_but_last}
use Rattle.arraystring_core.proofs.EditLaws.{inside-not, inside-so}
use Rattle.arraystring.proofs.TestLaws.{inside-failed, inside-fails, index-held}
use Rattle.arraystring.proofs.EditLaws.{edit-made, edit-makes, edit-refuses, edit-none_held, edit-first_held}

-- the last character of a text
last-of : (t : List ℕ) (c : ℕ) → Some c ≡ last_character t → t ≡ all_but_last t ++ c ∷ []
last-of [] c e = absurd (cc)
last-of (a ∷ []) c e = cc
last-of (a ∷ b ∷ t) c e = cc (last-of (b ∷ t) c e)

none-of : (t : List ℕ) → None ≡ last_character t → t ≡ []
none-of [] e = refl
none-of (a ∷ []) e = absurd (cc)
none-of (a ∷ b ∷ t) e = absurd (cc (none-of (b ∷ t) e))

-- the last character is taken
module _ {t new : List ℕ} where
  -- the text was what is left of it, and then the result
  pub popping-some : {c : ℕ} → Makes (popping t) t (Ok (Some c)) new → t ≡ new ++ c ∷ []
  popping-some {c} m = rw m.ok (last-of t c (edit-made m).1)

  -- no result comes of the empty text alone
  pub popping-none : Makes (popping t) t (Ok None) new → (t ≡ []) × (new ≡ [])
  popping-none m = let empty = none-of t (edit-made m).1 in (empty, m.ok ∙ ap all_but_last empty)

  -- both in one
  pub popping-made : {found : Option ℕ} → Makes (popping t) t (Ok found) new
      → MatchOption found ((t ≡ []) × (new ≡ [])) (λ c. t ≡ new ++ c ∷ [])
  popping-made {found = None} m = popping-none m
  popping-made {found = Some c} m = popping-some m

-- a pop leaves one character less, and the first `n` if there are more
module _ (t new : List ℕ) (found : Option ℕ) (m : Makes (popping t) t (Ok found) new) where
  pub popped-length : length new ≡ length t - 1
  popped-length = go found (popping-made m)
    where
      go : (found : Option ℕ) → MatchOption found ((t ≡ []) × (new ≡ [])) (λ c. t ≡ new ++ c ∷ []) → length new ≡ length t - 1
      go None none = omega (arith, ap length none.0, ap length none.1)
      go (Some c) is = omega (arith, ap length is, length-append new (c ∷ []))

  pub popped-take : (n : ℕ) → n < length t → take n new ≡ take n t
  popped-take n below = go found (popping-made m)
    where
      go : (found : Option ℕ) → MatchOption found ((t ≡ []) × (new ≡ [])) (λ c. t ≡ new ++ c ∷ []) → take n new ≡ take n t
      go None none = absurd (omega (arith, ap length none.0, below))
      go (Some c) is = sym (ap (take n) is ∙ take-append-le n new (c ∷ []) (omega (arith, popped-length, below)))

-- the part before `i` is kept
module _ {t : List ℕ} (i : ℕ) {new : List ℕ} where
  -- a truncation that returned `Ok`: the index is not inside a character, and the part before it is kept
  pub truncation-made : Makes (truncation t i) t (Ok tt) new → (i ≤ size t → boundary t i ≡ true) × (new ≡ front t i)
  truncation-made m = let none = edit-none_held m in (λ within. inside-failed t i within none.0, m.ok)

  -- one that returned `Err`: the index is inside a character
  pub truncation-refused : {error : Error} → Makes (truncation t i) t (Err error) new
      → (i < size t) × (boundary t i ≡ false) × (error ≡ Utf8) × (new ≡ t)
  truncation-refused m = let (cause, first, e, same) = edit-first_held m in grind (arith, nat_tests)

module _ {t : List ℕ} (i : ℕ) {new : List ℕ} {result : Result (Unit {0}) Error} where
  -- at a boundary, or past the text, it returns `Ok`
  pub truncation-makes : (i ≤ size t → boundary t i ≡ true) → Makes (truncation t i) t result new → (result ≡ Ok tt) × (new ≡ front t i)
  truncation-makes b m = edit-makes (rw (inside-fails t i b) refl) m

  -- an index inside a character is refused
  pub truncation-inside : i ≤ size t → boundary t i ≡ false → Makes (truncation t i) t result new → (result ≡ Err Utf8) × (new ≡ t)
  truncation-inside within b m = edit-refuses {cause = Inside} (grind (arith, nat_tests, inside-so t i within b)) m

-- the character that begins at `i` is taken out
module _ {t : List ℕ} (i : ℕ) {new : List ℕ} where
  -- a removal that returned `Ok`: a character begins at the index, is the result, and is gone
  pub removal-made : {c : ℕ} → Makes (removal t i) t (Ok c) new
      → (i < size t) × (boundary t i ≡ true) × ((rest : List ℕ) × (back t i ≡ c ∷ rest) × (new ≡ front t i ++ rest))
  removal-made {c} m =
      let was = edit-made m in
      let none = edit-none_held m in
      let under : i < size t = leb-false (size t) i none.0 in
      let b = inside-failed t i (omega arith) none.1.0 in
      (under, b, go (back t i) refl (omega (arith, back-size t i b)) was.1 was.2)
    where
      go : (l : List ℕ) → back t i ≡ l → 0 < size l → c ≡ slice_index l 0 → new ≡ front t i ++ drop 1 l
          → (rest : List ℕ) × (back t i ≡ c ∷ rest) × (new ≡ front t i ++ rest)
      go [] e some is same = absurd (omega arith)
      go (d ∷ rest) e some is same = (rest, e ∙ ap (λ x. x ∷ rest) (sym is), same)

  -- one that returned `Err`: the index is not below the size of the text, or inside a character
  pub removal-refused : {error : Error} → Makes (removal t i) t (Err error) new
      → (((size t ≤ i) × (error ≡ OutOfBounds)) ⊎ ((i < size t) × (boundary t i ≡ false) × (error ≡ Utf8))) × (new ≡ t)
  removal-refused m = let (cause, first, e, same) = edit-first_held m in (grind (arith, nat_tests), same)

-- the first character is taken out
module _ {t new : List ℕ} where
  -- a removal at the start that returned `Ok`: the text was the result, and then what is left of it
  pub removal_at_start-made : {c : ℕ} → Makes (removal t 0) t (Ok c) new → t ≡ c ∷ new
  removal_at_start-made {c} m =
      let left = (removal-made 0 m).2 in
      sym (back-start t) ∙ left.1 ∙ ap (λ l. c ∷ l) (sym (left.2 ∙ ap (λ l. l ++ left.0) (front-start t)))

  -- one that returned `Err`: the text was empty, since index 0 is a boundary of each text, and so not inside a character
  pub removal_at_start-refused : {error : Error} → Makes (removal t 0) t (Err error) new → (t ≡ []) × (error ≡ OutOfBounds) × (new ≡ [])
  removal_at_start-refused m =
      let refused = removal-refused 0 m in
      let empty : size t ≡ 0 = grind (arith, refused.0, boundary-is [] t 0 refl) in
      grind (arith, empty-size empty, refused)

module _ {t : List ℕ} (i : ℕ) {new : List ℕ} {result : Result ℕ Error} where
  -- the character that begins at a boundary is removed
  pub removal-makes : {c : ℕ} {rest : List ℕ} → boundary t i ≡ true → back t i ≡ c ∷ rest → Makes (removal t i) t result new
      → (result ≡ Ok c) × (new ≡ front t i ++ rest)
  removal-makes {c} {rest} b e m =
      let under : i < size t = omega (arith, back-size t i b, boundary-within t i b, ap size e, width-bounds c) in
      let made = edit-makes (rw (lt-leb (size t) i under, inside-not t i b) refl) m in
      (made.0 ∙ ap (λ l. Ok (slice_index l 0)) e, made.1 ∙ ap (λ l. front t i ++ drop 1 l) e)

  -- an index that is not below the size of the text is refused first
  pub removal-past : size t ≤ i → Makes (removal t i) t result new → (result ≡ Err OutOfBounds) × (new ≡ t)
  removal-past far m = edit-refuses {cause = Past} (grind (arith, nat_tests)) m

  -- then an index inside a character
  pub removal-inside : i < size t → boundary t i ≡ false → Makes (removal t i) t result new → (result ≡ Err Utf8) × (new ≡ t)
  removal-inside under b m = edit-refuses {cause = Inside} (grind (arith, nat_tests)) m

-- the part from `i` on is the result
module _ {t : List ℕ} (i : ℕ) {new : List ℕ} where
  -- a split that returned `Ok`: the index is a boundary of the text, and the two parts are the result and the text
  pub split-made : {value : List ℕ} → Makes (split t i) t (Ok value) new
      → (i ≤ size t) × (boundary t i ≡ true) × (value ≡ back t i) × (new ≡ front t i)
  split-made m = grind (arith, nat_tests, edit-none_held m, inside-failed t i, (edit-made m).1, m.ok)

  -- one that returned `Err`: the index is past the text, or inside a character
  pub split-refused : {error : Error} → Makes (split t i) t (Err error) new
      → (((size t < i) × (error ≡ OutOfBounds)) ⊎ ((i < size t) × (boundary t i ≡ false) × (error ≡ Utf8))) × (new ≡ t)
  split-refused m = let was = edit-first_held m in (index-held t i was.1 was.2, was.3)

module _ {t : List ℕ} (i : ℕ) {new : List ℕ} {result : Result (List ℕ) Error} where
  -- at a boundary it returns `Ok`
  pub split-makes : boundary t i ≡ true → Makes (split t i) t result new → (result ≡ Ok (back t i)) × (new ≡ front t i)
  split-makes b m = edit-makes (grind (arith, nat_tests, boundary-within t i b)) m

  -- an index past the text is refused first
  pub split-past : size t < i → Makes (split t i) t result new → (result ≡ Err OutOfBounds) × (new ≡ t)
  split-past far m = edit-refuses {cause = Past} (grind (arith, nat_tests)) m

  -- then an index inside a character
  pub split-inside : i ≤ size t → boundary t i ≡ false → Makes (split t i) t result new → (result ≡ Err Utf8) × (new ≡ t)
  split-inside within b m = edit-refuses {cause = Inside} (grind (arith, nat_tests, inside-so t i within b)) m
