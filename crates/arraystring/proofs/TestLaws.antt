-- Laws of the tests that an edit makes in turn (specs/Causes and specs/Held of `arraystring_core`).
use Rattle.std.proofs.Common.{◌≡◌, ℕ, ◌<◌, ◌≤◌, ◌⊎◌, List, [], ◌∷◌, arith, true, false, inl, inr, Some}
use Rattle.std.proofs.lemmas.Bool.{cases_Bool}
use Rattle.std.proofs.lemmas.Bool.Decides.{nat_tests}
use Rattle.arraystring_base.specs.Text.{size, boundary}
use Rattle.arraystring_base.specs.declared.error.Error.{Error}
use Rattle.arraystring_base.specs.declared.error.Error.TheVariants.{Utf8, OutOfBounds}
use Rattle.arraystring_core.specs.Causes.{RefusalCause, Inside, RefusalTest, error_of, first_cause, past_text_test, inside_character_test}
use Rattle.arraystring_core.specs.Held.{IsFirstCause}
use Rattle.arraystring_core.proofs.EditLaws.{inside-so}
pub use Rattle.arraystring_core.proofs.EditLaws.{none-holds, inside-failed}

-- if a cause is found, it is that of the first that holds
pub first-holds : (tests : List RefusalTest) (found : RefusalCause) → first_cause tests ≡ Some found → IsFirstCause tests found
first-holds [] found e = absurd (cc)
first-holds (test ∷ rest) found e = elim (cases_Bool test.holds) [
  | inl holds ↦ inl (holds, cc (rw holds at e))
  | inr fails ↦ inr (fails, first-holds rest found (rw fails at e))
]

-- a boundary, or an index past the text, is not inside a character: it lacks one of the two
pub inside-fails : (t : List ℕ) (i : ℕ) → (i ≤ size t → boundary t i ≡ true) → (inside_character_test t i).holds ≡ false
inside-fails t i b = grind (arith, nat_tests)

-- the first test of an index that holds: the index is past the text, or else inside a character
pub index-held : (t : List ℕ) (i : ℕ) {cause : RefusalCause} {error : Error} → IsFirstCause (past_text_test t i ∷ inside_character_test t i ∷ []) cause → error ≡ error_of cause
    → ((size t < i) × (error ≡ OutOfBounds)) ⊎ ((i < size t) × (boundary t i ≡ false) × (error ≡ Utf8))
index-held t i first e = grind (arith, nat_tests)

-- if the range is in order and in the text, an end inside a character is found: either test has the same cause
pub ends-held : (t : List ℕ) (start end : ℕ) → start ≤ end → end ≤ size t → (boundary t start ≡ false) ⊎ (boundary t end ≡ false)
    → first_cause (inside_character_test t start ∷ inside_character_test t end ∷ []) ≡ Some Inside
ends-held t start end order within at = grind (arith, nat_tests, inside-so t start (omega arith), inside-so t end within)
