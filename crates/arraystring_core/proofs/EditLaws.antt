-- Laws of edits: when a test holds, and what an edit then does.
use Rattle.std.proofs.Common.{◌≡◌, ℕ, ◌+◌, ◌<◌, ◌≤◌, List, [], ◌∷◌, ◌++◌, ap, arith, suc, true, false, refl, Some, None, Result, Ok, Err}
use Rattle.std.proofs.lemmas.Bool.{lt-ltb, le-ltb, and_right}
use Rattle.std.proofs.Math.Bool.{or_assoc, or-false}
use Rattle.std.proofs.lemmas.Bool.Decides.{nat_tests}
use Rattle.std.specs.Char.{is_whitespace}
use Rattle.std.specs.Prelude.{◌&&◌, ◌||◌, ◌==◌, nat_le, nat_lt}
use Rattle.arraystring_base.specs.Text.{size, boundary}
use Rattle.arraystring_base.proofs.BoundaryLaws.{boundary-end}
use Rattle.arraystring_core.specs.Held.{NoTestHolds}
use Rattle.arraystring_core.specs.Edits.{RefusalCause, Room, RefusalTest, Edit, Makes, first_cause, error_of, inside_character_test, addition, last_character, all_but_last, is_white_space}
use Rattle.arraystring_base.specs.declared.error.Error.{Error}
use Rattle.arraystring_base.specs.declared.error.Error.TheVariants.{OutOfBounds}

-- an edit with a cause, and one without
module _ {A : Type 0} (edit : Edit A) (t : List ℕ) where
  pub refuses : (cause : RefusalCause) → first_cause edit.tests ≡ Some cause → Makes edit t (Err (error_of cause)) t
  refuses cause e = record { returns = rw e refl; ok = tt; err = refl }

  pub makes : (value : A) (new : List ℕ) → first_cause edit.tests ≡ None → value ≡ edit.result → new ≡ edit.after
      → Makes edit t (Ok value) new
  makes value new e a n = record { returns = rw e (ap Ok a); ok = n; err = tt }

-- if no cause is found, none of the tests holds: of one that holds the cause would be found, and so the rest has none either
pub none-holds : (tests : List RefusalTest) → first_cause tests ≡ None → NoTestHolds tests
none-holds [] e = tt
none-holds (test ∷ rest) e = grind (arith, none-holds rest)

-- the last character of a text, and those before it
pub last_character-push : (t : List ℕ) (c : ℕ) → last_character (t ++ c ∷ []) ≡ Some c
last_character-push [] c = refl
last_character-push (a ∷ []) c = refl
last_character-push (a ∷ b ∷ t) c = last_character-push (b ∷ t) c

pub all_but_last-push : (t : List ℕ) (c : ℕ) → all_but_last (t ++ c ∷ []) ≡ t
all_but_last-push [] c = refl
all_but_last-push (a ∷ []) c = refl
all_but_last-push (a ∷ b ∷ t) c = ap (λ l. a ∷ l) (all_but_last-push (b ∷ t) c)

-- a boundary is not inside, and an index in the text that is no boundary is: it is not the end, which is a boundary
pub inside-not : (t : List ℕ) (i : ℕ) → boundary t i ≡ true → (inside_character_test t i).holds ≡ false
inside-not t i b = rw b (and_right _ false refl)

pub inside-so : (t : List ℕ) (i : ℕ) → i ≤ size t → boundary t i ≡ false → (inside_character_test t i).holds ≡ true
inside-so t i le b = grind (arith, nat_tests, boundary-end t)

-- nor is an index past the text
pub inside-past : (t : List ℕ) (i : ℕ) → size t ≤ i → (inside_character_test t i).holds ≡ false
inside-past t i ge = rw (le-ltb i (size t) ge)

-- an index in the text that is not inside a character is a boundary: if it were none, it would be inside
pub inside-failed : (t : List ℕ) (i : ℕ) → i ≤ size t → (inside_character_test t i).holds ≡ false → boundary t i ≡ true
inside-failed t i within out = grind (arith, inside-so t i within)

-- an addition has a cause exactly if it does not fit
pub addition-no_cause : (t given : List ℕ) (n : ℕ) → size t + size given ≤ n → first_cause (addition t given n).tests ≡ None
addition-no_cause t given n fits = rw (le-ltb n (size t + size given) fits) refl

pub addition-room : (t given : List ℕ) (n : ℕ) → n < size t + size given → first_cause (addition t given n).tests ≡ Some Room
addition-room t given n over = rw (lt-ltb n (size t + size given) over) refl

-- what an addition did, by what it returned: its one test is that of the room, which holds exactly if an error was returned
module _ {t : List ℕ} (given : List ℕ) (n : ℕ) {new : List ℕ} where
  pub addition-made : Makes (addition t given n) t (Ok tt) new → (size t + size given ≤ n) × (new ≡ t ++ given)
  addition-made m = grind (arith, nat_tests)

  pub addition-refused : {error : Error} → Makes (addition t given n) t (Err error) new
      → (n < size t + size given) × (error ≡ OutOfBounds) × (new ≡ t)
  addition-refused {error} m = grind (arith, nat_tests)

  -- where it fits, it was made
  pub addition-fits : (result : Result (Unit {0}) Error) → size t + size given ≤ n → Makes (addition t given n) t result new → new ≡ t ++ given
  addition-fits (Ok _) fits m = m.ok
  addition-fits (Err _) fits m = absurd (omega (arith, (addition-refused m).0))

-- the ranges of white space are those of `char::is_whitespace`, which names the number before a range and the one behind it;
-- of a range of two it names both, and of a range of one that one
range-std : (a b c : ℕ) → (nat_le (suc a) c && nat_le c b) ≡ (nat_lt a c && nat_lt c (suc b))
range-std a b c = grind (arith, nat_tests)

pair-std : (a c : ℕ) → (nat_le a c && nat_le c (suc a)) ≡ (c == a || c == suc a)
pair-std a c = grind (arith, nat_tests)

single-std : (a c : ℕ) → (nat_le a c && nat_le c a) ≡ (c == a)
single-std a c = grind (arith, nat_tests)

pub is_white_space_std : (c : ℕ) → is_white_space c ≡ is_whitespace c
unfolding is_white_space
is_white_space_std c =
    simp (
      range-std 0x0008 0x000D c,
      single-std 0x0020 c,
      single-std 0x0085 c,
      single-std 0x00A0 c,
      single-std 0x1680 c,
      range-std 0x1FFF 0x200A c,
      pair-std 0x2028 c,
      single-std 0x202F c,
      single-std 0x205F c,
      single-std 0x3000 c,
      or_assoc,
      or-false,
    ) refl

pub ruleset popped = (last_character-push, all_but_last-push)
