-- An edit makes tests in turn, and the first that holds gives the cause of its refusal.
use Rattle.std.specs.Prelude.{ℕ, List, [], ◌∷◌, Bool, not, ◌&&◌, Option, Some, None, if◌then◌else◌, nat_lt, nat_le}
use Rattle.arraystring_base.specs.Text.{size, boundary}
use Rattle.arraystring_base.specs.declared.error.Error.{Error}
use Rattle.arraystring_base.specs.declared.error.Error.TheVariants as error

-- the cause of a refusal. `Past`: an index past the text, in a removal also one at its end, or a range that ends before it starts. `Room`:
-- a result that does not fit. `Inside`: an index inside a character
pub data RefusalCause : Type 0 where
  Past : RefusalCause
  Room : RefusalCause
  Inside : RefusalCause

-- the error of a refusal: `Utf8` for an index inside a character, else `OutOfBounds`
abbrev pub error_of : RefusalCause → Error
error_of Past = error.OutOfBounds
error_of Room = error.OutOfBounds
error_of Inside = error.Utf8

-- a test of an edit: if it `holds`, the edit is refused, for the `cause` of the first test that holds
pub record RefusalTest : Type 0 where
  pub holds : Bool
  pub cause : RefusalCause

-- the test that i is past t: greater than its size
abbrev pub past_text_test : List ℕ → ℕ → RefusalTest
past_text_test t i = record { holds = nat_lt (size t) i; cause = Past }

-- the test that a range ends before it starts
abbrev pub reversed_range_test : ℕ → ℕ → RefusalTest
reversed_range_test start end = record { holds = nat_lt end start; cause = Past }

-- the test that i is at the end of t or past it
abbrev pub at_or_past_end_test : List ℕ → ℕ → RefusalTest
at_or_past_end_test t i = record { holds = nat_le (size t) i; cause = Past }

-- the test that i is inside a character of t: not past t, and no boundary
abbrev pub inside_character_test : List ℕ → ℕ → RefusalTest
inside_character_test t i = record { holds = nat_lt i (size t) && not (boundary t i); cause = Inside }

-- the test that a result of this size does not fit into n bytes
abbrev pub no_room_test : ℕ → ℕ → RefusalTest
no_room_test result_size n = record { holds = nat_lt n result_size; cause = Room }

-- the cause of the first test that holds; `None` if no test holds
abbrev pub first_cause : List RefusalTest → Option RefusalCause
first_cause [] = None
first_cause (test ∷ rest) = if test.holds then Some test.cause else first_cause rest
