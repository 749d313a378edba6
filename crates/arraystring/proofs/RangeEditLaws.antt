-- Laws of the rows of ranges, `draining` and `replacement` (specs/Edits).
-- Of each row: what holds after an `Ok` (`-made`) and after an `Err` (`-refused`), when the result is `Ok` (`-makes`), and
-- when it is which `Err` (`-crossed`, `-past`, `-over`, `-inside`). A law takes what its row takes after the text, and then facts.
-- After an `Ok` no test of the row holds, and an `Err` is that of the first that does. `grind` reads each test as the comparison
-- that it makes, one after the other; where a test asks for a boundary, the law that says whether it holds stands beside.
use Rattle.std.proofs.Common.{◌≡◌, ℕ, ◌+◌, ◌-◌, ◌<◌, ◌≤◌, ◌⊎◌, List, ◌++◌, arith, true, false, Result, Ok, Err}
use Rattle.std.proofs.lemmas.Bool.Decides.{nat_tests}
use Rattle.arraystring_base.specs.Text.{size, front, back, boundary}
use Rattle.arraystring_base.proofs.BoundaryLaws.{boundary-within}
use Rattle.arraystring_base.specs.declared.error.Error.{Error}
use Rattle.arraystring_base.specs.declared.error.Error.TheVariants.{Utf8, OutOfBounds}
use Rattle.arraystring_core.specs.Edits.{Past, Room, Inside, Makes, reversed_range_test, part, draining, replacement}
use Rattle.arraystring.proofs.TestLaws.{inside-failed, ends-held}
use Rattle.arraystring.proofs.EditLaws.{edit-made, edit-makes, edit-refuses, edit-none_held, edit-first_held}

-- the part from `start` to `end` is taken out, and is the result
module _ {t : List ℕ} (start end : ℕ) {new : List ℕ} where
  -- a drain that returned `Ok`: the range is in order and in the text, its ends are boundaries, and its part is the result
  pub draining-made : {value : List ℕ} → Makes (draining t start end) t (Ok value) new
      → (start ≤ end) × (end ≤ size t) × (boundary t start ≡ true) × (boundary t end ≡ true)
      × (value ≡ part t start end) × (new ≡ front t start ++ back t end)
  draining-made m = grind (arith, nat_tests, edit-none_held m, inside-failed t start, inside-failed t end, (edit-made m).1, m.ok)

  -- one that returned `Err`: by the first test that holds
  pub draining-refused : {error : Error} → Makes (draining t start end) t (Err error) new
      → (((end < start) × (error ≡ OutOfBounds))
      ⊎ ((start ≤ end) × (size t < end) × (error ≡ OutOfBounds))
      ⊎ ((start ≤ end) × (end ≤ size t) × (boundary t start ≡ false) × (error ≡ Utf8))
      ⊎ ((start ≤ end) × (end ≤ size t) × (boundary t start ≡ true) × (boundary t end ≡ false) × (error ≡ Utf8)))
      × (new ≡ t)
  draining-refused m = let (cause, first, e, same) = edit-first_held m in (grind (arith, nat_tests, inside-failed t start), same)

module _ {t : List ℕ} (start end : ℕ) {new : List ℕ} {result : Result (List ℕ) Error} where
  -- the part between two boundaries is drained
  pub draining-makes : start ≤ end → boundary t start ≡ true → boundary t end ≡ true → Makes (draining t start end) t result new
      → (result ≡ Ok (part t start end)) × (new ≡ front t start ++ back t end)
  draining-makes order b d m = edit-makes (grind (arith, nat_tests, boundary-within t end d)) m

  -- a range that ends before it starts is refused first
  pub draining-crossed : end < start → Makes (draining t start end) t result new → (result ≡ Err OutOfBounds) × (new ≡ t)
  draining-crossed reversed_range_test m = edit-refuses {cause = Past} (grind (arith, nat_tests)) m

  -- then one that ends past the text
  pub draining-past : start ≤ end → size t < end → Makes (draining t start end) t result new → (result ≡ Err OutOfBounds) × (new ≡ t)
  draining-past order far m = edit-refuses {cause = Past} (grind (arith, nat_tests)) m

  -- then a start or an end inside a character
  pub draining-inside : start ≤ end → end ≤ size t → (boundary t start ≡ false) ⊎ (boundary t end ≡ false)
      → Makes (draining t start end) t result new → (result ≡ Err Utf8) × (new ≡ t)
  draining-inside order within at m =
      edit-refuses {cause = Inside} (grind (arith, nat_tests, ends-held t start end order within at)) m

-- the part from `start` to `end` is replaced by `given`
module _ {t : List ℕ} (start end : ℕ) (given : List ℕ) (n : ℕ) {new : List ℕ} where
  -- a replacement that returned `Ok`: as a drain that did, and all of what is given fitted
  pub replacement-made : Makes (replacement t start end given n) t (Ok tt) new
      → (start ≤ end) × (end ≤ size t) × (size t - (end - start) + size given ≤ n) × (boundary t start ≡ true) × (boundary t end ≡ true)
      × (new ≡ front t start ++ (given ++ back t end))
  replacement-made m = grind (arith, nat_tests, edit-none_held m, inside-failed t start, inside-failed t end, m.ok)

  -- one that returned `Err`: by the first test that holds
  pub replacement-refused : {error : Error} → Makes (replacement t start end given n) t (Err error) new
      → (((end < start) × (error ≡ OutOfBounds))
      ⊎ ((start ≤ end) × (size t < end) × (error ≡ OutOfBounds))
      ⊎ ((start ≤ end) × (end ≤ size t) × (n < size t - (end - start) + size given) × (error ≡ OutOfBounds))
      ⊎ ((start ≤ end) × (end ≤ size t) × (size t - (end - start) + size given ≤ n) × (boundary t start ≡ false) × (error ≡ Utf8))
      ⊎ ((start ≤ end) × (end ≤ size t) × (size t - (end - start) + size given ≤ n) × (boundary t start ≡ true) × (boundary t end ≡ false)
      × (error ≡ Utf8)))
      × (new ≡ t)
  replacement-refused m =
      let (cause, first, e, same) = edit-first_held m in (grind (arith, nat_tests, inside-failed t start), same)

module _ {t : List ℕ} (start end : ℕ) (given : List ℕ) (n : ℕ) {new : List ℕ} {result : Result (Unit {0}) Error} where
  -- what fits replaces the part between two boundaries
  pub replacement-makes : start ≤ end → size t - (end - start) + size given ≤ n → boundary t start ≡ true → boundary t end ≡ true
      → Makes (replacement t start end given n) t result new → (result ≡ Ok tt) × (new ≡ front t start ++ (given ++ back t end))
  replacement-makes order fits b d m = edit-makes (grind (arith, nat_tests, boundary-within t end d)) m

  -- a range that ends before it starts is refused first
  pub replacement-crossed : end < start → Makes (replacement t start end given n) t result new → (result ≡ Err OutOfBounds) × (new ≡ t)
  replacement-crossed reversed_range_test m = edit-refuses {cause = Past} (grind (arith, nat_tests)) m

  -- then one that ends past the text
  pub replacement-past : start ≤ end → size t < end → Makes (replacement t start end given n) t result new
      → (result ≡ Err OutOfBounds) × (new ≡ t)
  replacement-past order far m = edit-refuses {cause = Past} (grind (arith, nat_tests)) m

  -- then what does not fit
  pub replacement-over : start ≤ end → end ≤ size t → n < size t - (end - start) + size given → Makes (replacement t start end given n) t result new
      → (result ≡ Err OutOfBounds) × (new ≡ t)
  replacement-over order within over m = edit-refuses {cause = Room} (grind (arith, nat_tests)) m

  -- then a start or an end inside a character
  pub replacement-inside : start ≤ end → end ≤ size t → size t - (end - start) + size given ≤ n
      → (boundary t start ≡ false) ⊎ (boundary t end ≡ false)
      → Makes (replacement t start end given n) t result new → (result ≡ Err Utf8) × (new ≡ t)
  replacement-inside order within fits at m =
      edit-refuses {cause = Inside} (grind (arith, nat_tests, ends-held t start end order within at)) m
