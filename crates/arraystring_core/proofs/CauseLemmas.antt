-- What is known once the tests of a row were made.
use Rattle.std.proofs.Common.{◌≡◌, ℕ, ◌+◌, ◌-◌, ◌≤◌, ◌<◌, None, Ok, Err, List, ◌∷◌, [], ◌++◌, arith, true, refl}
use Rattle.std.proofs.lemmas.Bool.{ltb-false, leb-false}
use Rattle.arraystring_base.specs.Text.{size, boundary}
use Rattle.arraystring_base.specs.declared.error.Error.TheVariants.{OutOfBounds}
use Rattle.arraystring_core.specs.Edits.{RefusalTest, first_cause, ok_unless_cause, past_text_test, at_or_past_end_test, reversed_range_test, inside_character_test, no_room_test, Makes, Room, addition}
use Rattle.arraystring_core.proofs.EditLaws.{none-holds, inside-failed, refuses, makes, addition-no_cause, addition-room}

-- the tests found no cause
abbrev Passed : List RefusalTest → Type 0
Passed tests = Ok (tt {0}) ≡ ok_unless_cause (first_cause tests) (tt {0})

-- `ok_unless_cause` returns `Ok` only without a cause
pub no_cause : (tests : List RefusalTest) → Passed tests → first_cause tests ≡ None
no_cause tests is = grind arith

-- an index in the text that is no boundary would be inside a character
module _ (t : List ℕ) (i : ℕ) where
  pub divides : Passed (past_text_test t i ∷ inside_character_test t i ∷ []) → (i ≤ size t) × (boundary t i ≡ true)
  divides is =
      let tests = past_text_test t i ∷ inside_character_test t i ∷ [] in
      let none = none-holds tests (no_cause tests is) in
      let within : i ≤ size t = ltb-false (size t) i none.0 in
      (within, inside-failed t i within none.1.0)

  pub takes_in : (len n : ℕ) → Passed (past_text_test t i ∷ no_room_test (size t + len) n ∷ inside_character_test t i ∷ [])
      → (size t + len ≤ n) × (boundary t i ≡ true)
  takes_in len n is =
      let tests = past_text_test t i ∷ no_room_test (size t + len) n ∷ inside_character_test t i ∷ [] in
      let none = none-holds tests (no_cause tests is) in
      (ltb-false n (size t + len) none.1.0, inside-failed t i (ltb-false (size t) i none.0) none.1.1.0)

  pub begins : Passed (at_or_past_end_test t i ∷ inside_character_test t i ∷ []) → (i < size t) × (boundary t i ≡ true)
  begins is =
      let tests = at_or_past_end_test t i ∷ inside_character_test t i ∷ [] in
      let none = none-holds tests (no_cause tests is) in
      let before : i < size t = leb-false (size t) i none.0 in
      (before, inside-failed t i (omega arith) none.1.0)

-- what is known if a part may be replaced by so many bytes
pub record IsAllowed (t : List ℕ) (start end len n : ℕ) : Type 0 where
  pub order : start ≤ end
  pub within : end ≤ size t
  pub room : size t - (end - start) + len ≤ n
  pub starts : boundary t start ≡ true
  pub ends : boundary t end ≡ true

module _ (t : List ℕ) (start end len n : ℕ) where
  abbrev tests_of_replacement : List RefusalTest
  tests_of_replacement = reversed_range_test start end ∷ past_text_test t end ∷ no_room_test (size t - (end - start) + len) n ∷ inside_character_test t start ∷ inside_character_test t end ∷ []

  pub allowed-where : first_cause tests_of_replacement ≡ None → IsAllowed t start end len n
  allowed-where e =
      let none = none-holds tests_of_replacement e in
      let order : start ≤ end = ltb-false end start none.0 in
      let reached : end ≤ size t = ltb-false (size t) end none.1.0 in
      record {
        order = order;
        within = reached;
        room = ltb-false n (size t - (end - start) + len) none.1.1.0;
        starts = inside-failed t start (omega arith) none.1.1.1.0;
        ends = inside-failed t end reached none.1.1.1.1.0;
      }

  pub allowed : Passed tests_of_replacement → IsAllowed t start end len n
  allowed is = allowed-where (no_cause tests_of_replacement is)

module _ {t : List ℕ} (given : List ℕ) {n : ℕ} where
  pub refuses-addition : n < size t + size given → Makes (addition t given n) t (Err OutOfBounds) t
  refuses-addition over = refuses _ t Room (addition-room t given n over)

  pub makes-addition : {new : List ℕ} → size t + size given ≤ n → new ≡ t ++ given → Makes (addition t given n) t (Ok tt) new
  makes-addition fits is = makes _ t tt _ (addition-no_cause t given n fits) refl is
