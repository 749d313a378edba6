-- Laws of the rows that add: `addition`, `addition_of_cut`, `insertion` and `insertion_of_cut` (specs/Edits).
-- Of each row: what holds after an `Ok` (`-made`) and after an `Err` (`-refused`), when the result is `Ok` (`-makes`), and
-- when it is which `Err` (`-past`, `-over`, `-inside`). A law takes what its row takes after the text, and then facts.
-- After an `Ok` no test of the row holds, and an `Err` is that of the first that does. `grind` reads each test as the comparison
-- that it makes, one after the other; where a test asks for a boundary, the law that says whether it holds stands beside.
use Rattle.std.proofs.Common.{◌≡◌, ◌↔◌, ℕ, ◌+◌, ◌-◌, ◌<◌, ◌≤◌, ◌⊎◌, List, [], ◌∷◌, ◌++◌, arith, true, false, refl, Result, Ok, Err}
use Rattle.std.proofs.lemmas.Bool.Decides.{nat_tests}
use Rattle.std.proofs.lemmas.List.{append-nil}
use Rattle.std.specs.Prelude.{nat_lt}
use Rattle.arraystring_base.specs.Text.{size, width, cut, front, back, boundary}
use Rattle.arraystring_base.proofs.TextLaws.{width-bounds}
use Rattle.arraystring_base.proofs.CutLaws.{cut-all, cut-fits, cut-past_part}
use Rattle.arraystring_base.proofs.BoundaryLaws.{boundary-within, front-start, back-start, boundary-is}
use Rattle.arraystring_base.specs.declared.error.Error.{Error}
use Rattle.arraystring_base.specs.declared.error.Error.TheVariants.{Utf8, OutOfBounds}
use Rattle.arraystring_core.specs.Edits.{Past, Room, Inside, Makes, text_after_edit, addition, addition_of_cut, insertion, insertion_of_cut}
use Rattle.arraystring_core.proofs.EditLaws.{addition-no_cause, addition-room, inside-so}
pub use Rattle.arraystring_core.proofs.EditLaws.{addition-made, addition-refused}
use Rattle.arraystring.proofs.TestLaws.{inside-failed, index-held}
use Rattle.arraystring.proofs.EditLaws.{edit-makes, edit-refuses, edit-none_held, edit-first_held}

-- `given` is added at the end
module _ {t : List ℕ} (given : List ℕ) (n : ℕ) {new : List ℕ} {result : Result (Unit {0}) Error} where
  -- what fits is added
  pub addition-makes : size t + size given ≤ n → Makes (addition t given n) t result new → (result ≡ Ok tt) × (new ≡ t ++ given)
  addition-makes fits m = edit-makes (addition-no_cause t given n fits) m

  -- what does not fit is refused
  pub addition-over : n < size t + size given → Makes (addition t given n) t result new → (result ≡ Err OutOfBounds) × (new ≡ t)
  addition-over over m = edit-refuses {cause = Room} (addition-room t given n over) m

-- what fits of `given` is added at the end
module _ {t : List ℕ} (given : List ℕ) (n : ℕ) {new : List ℕ} {result : Result (Unit {0}) Error} where
  -- what is left of the room is filled with the cut of what is given
  pub addition_of_cut-makes : Makes (addition_of_cut t given n) t result new → (result ≡ Ok tt) × (new ≡ t ++ cut given (n - size t))
  addition_of_cut-makes m = edit-makes refl m

  -- all of it, if it fits
  pub addition_of_cut-fits : size t + size given ≤ n → Makes (addition_of_cut t given n) t result new → new ≡ t ++ given
  addition_of_cut-fits fits m = rw (cut-all {t = given} {n = n - size t} (omega arith)) at (edit-makes refl m).1

  -- the text after is the cut of both, if the text before fits
  pub addition_of_cut-cuts : size t ≤ n → Makes (addition_of_cut t given n) t result new → new ≡ cut (t ++ given) n
  addition_of_cut-cuts fits m = rw (cut-past_part t given n fits) (edit-makes refl m).1

-- for one character a refusal is a cut: if the text before fits, the text after is the cut of the text and the character
pub addition-char_cuts : (t : List ℕ) (ch n : ℕ) → size t ≤ n → cut (t ++ ch ∷ []) n ≡ text_after_edit (addition t (ch ∷ []) n) t
addition-char_cuts t ch n fits = grind (arith, nat_tests, append-nil t, cut-past_part t (ch ∷ []) n fits)

-- less than all of it is added exactly if all of it does not fit
pub addition_of_cut-less : (t given : List ℕ) (n : ℕ) → size t ≤ n
    → (nat_lt (size (cut given (n - size t))) (size given) ≡ true) ↔ (n < size t + size given)
addition_of_cut-less t given n fits =
    let whole : size given ≤ n - size t → cut given (n - size t) ≡ given = cut-all in
    grind (arith, nat_tests, whole, cut-fits given (n - size t))

-- `given` is put at `i`
module _ {t : List ℕ} (i : ℕ) (given : List ℕ) (n : ℕ) {new : List ℕ} where
  -- an insertion that returned `Ok`: the index is a boundary of the text, all of it fitted, and is there
  pub insertion-made : Makes (insertion t i given n) t (Ok tt) new
      → (i ≤ size t) × (size t + size given ≤ n) × (boundary t i ≡ true) × (new ≡ front t i ++ (given ++ back t i))
  insertion-made m = grind (arith, nat_tests, edit-none_held m, inside-failed t i, m.ok)

  -- an insertion that returned `Err`: the index is past the text, or it did not fit, or the index is inside a character
  pub insertion-refused : {error : Error} → Makes (insertion t i given n) t (Err error) new
      → (((size t < i) × (error ≡ OutOfBounds))
      ⊎ ((i ≤ size t) × (n < size t + size given) × (error ≡ OutOfBounds))
      ⊎ ((i < size t) × (size t + size given ≤ n) × (boundary t i ≡ false) × (error ≡ Utf8)))
      × (new ≡ t)
  insertion-refused m = let (cause, first, e, same) = edit-first_held m in (grind (arith, nat_tests), same)

module _ {t : List ℕ} (i : ℕ) (given : List ℕ) (n : ℕ) {new : List ℕ} {result : Result (Unit {0}) Error} where
  -- what fits is put at a boundary
  pub insertion-makes : size t + size given ≤ n → boundary t i ≡ true → Makes (insertion t i given n) t result new
      → (result ≡ Ok tt) × (new ≡ front t i ++ (given ++ back t i))
  insertion-makes fits b m = edit-makes (grind (arith, nat_tests, boundary-within t i b)) m

  -- an index past the text is refused first
  pub insertion-past : size t < i → Makes (insertion t i given n) t result new → (result ≡ Err OutOfBounds) × (new ≡ t)
  insertion-past far m = edit-refuses {cause = Past} (grind (arith, nat_tests)) m

  -- then what does not fit
  pub insertion-over : i ≤ size t → n < size t + size given → Makes (insertion t i given n) t result new
      → (result ≡ Err OutOfBounds) × (new ≡ t)
  insertion-over within over m = edit-refuses {cause = Room} (grind (arith, nat_tests)) m

  -- then an index inside a character
  pub insertion-inside : i ≤ size t → size t + size given ≤ n → boundary t i ≡ false → Makes (insertion t i given n) t result new
      → (result ≡ Err Utf8) × (new ≡ t)
  insertion-inside within fits b m = edit-refuses {cause = Inside} (grind (arith, nat_tests, inside-so t i within b)) m

-- `given` is put at the start
module _ {t : List ℕ} (given : List ℕ) (n : ℕ) {new : List ℕ} where
  -- one that returned `Ok`: all of it fitted, and is before the text
  pub insertion_at_start-made : Makes (insertion t 0 given n) t (Ok tt) new → (size t + size given ≤ n) × (new ≡ given ++ t)
  insertion_at_start-made m = ((insertion-made 0 given n m).1, rw (front-start, back-start) at m.ok)

  -- one that returned `Err`: it did not fit, since index 0 is a boundary of each text; and the text is the old one
  pub insertion_at_start-refused : {error : Error} → Makes (insertion t 0 given n) t (Err error) new
      → (n < size t + size given) × (error ≡ OutOfBounds) × (new ≡ t)
  insertion_at_start-refused m = grind (arith, insertion-refused 0 given n m, boundary-is [] t 0 refl)

-- what fits of `given` is put at `i`
module _ {t : List ℕ} (i : ℕ) (given : List ℕ) (n : ℕ) {new : List ℕ} where
  -- an insertion of a cut that returned `Ok`: the index is a boundary of the text, and the cut is there
  pub insertion_of_cut-made : Makes (insertion_of_cut t i given n) t (Ok tt) new
      → (i ≤ size t) × (boundary t i ≡ true) × (new ≡ front t i ++ (cut given (n - size t) ++ back t i))
  insertion_of_cut-made m = grind (arith, nat_tests, edit-none_held m, inside-failed t i, m.ok)

  -- all of it, if it fits
  pub insertion_of_cut-fits : size t + size given ≤ n → Makes (insertion_of_cut t i given n) t (Ok tt) new
      → new ≡ front t i ++ (given ++ back t i)
  insertion_of_cut-fits fits m = rw (cut-all {t = given} {n = n - size t} (omega arith)) at m.ok

  -- one that returned `Err`: the index is past the text, or inside a character
  pub insertion_of_cut-refused : {error : Error} → Makes (insertion_of_cut t i given n) t (Err error) new
      → (((size t < i) × (error ≡ OutOfBounds)) ⊎ ((i < size t) × (boundary t i ≡ false) × (error ≡ Utf8))) × (new ≡ t)
  insertion_of_cut-refused m = let was = edit-first_held m in (index-held t i was.1 was.2, was.3)

module _ {t : List ℕ} (i : ℕ) (given : List ℕ) (n : ℕ) {new : List ℕ} {result : Result (Unit {0}) Error} where
  -- at a boundary it returns `Ok`
  pub insertion_of_cut-makes : boundary t i ≡ true → Makes (insertion_of_cut t i given n) t result new
      → (result ≡ Ok tt) × (new ≡ front t i ++ (cut given (n - size t) ++ back t i))
  insertion_of_cut-makes b m = edit-makes (grind (arith, nat_tests, boundary-within t i b)) m

  -- an index past the text is refused first
  pub insertion_of_cut-past : size t < i → Makes (insertion_of_cut t i given n) t result new → (result ≡ Err OutOfBounds) × (new ≡ t)
  insertion_of_cut-past far m = edit-refuses {cause = Past} (grind (arith, nat_tests)) m

  -- then an index inside a character
  pub insertion_of_cut-inside : i ≤ size t → boundary t i ≡ false → Makes (insertion_of_cut t i given n) t result new
      → (result ≡ Err Utf8) × (new ≡ t)
  insertion_of_cut-inside within b m = edit-refuses {cause = Inside} (grind (arith, nat_tests, inside-so t i within b)) m

-- a text that fills the room, or does not fit, hides all that follows, as `cut-past` says of one that does not fit
pub cut-full : (p q : List ℕ) (n : ℕ) → n ≤ size p → cut (p ++ q) n ≡ cut p n
cut-full [] [] n le = refl
cut-full [] (c ∷ q) n le = grind (arith, nat_tests, width-bounds c)
cut-full (c ∷ p) q n le =
    let rest : width c ≤ n → cut (p ++ q) (n - width c) ≡ cut p (n - width c) =
    λ fits. cut-full p q (n - width c) (omega arith) in
    grind (arith, nat_tests, rest)
