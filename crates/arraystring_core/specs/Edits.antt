-- These definitions say of each edit of a text which tests it makes, in their order, what it returns, and which text it leaves.
use Rattle.std.specs.Prelude.{◌≡◌, ℕ, ◌+◌, ◌-◌, List, [], ◌∷◌, ◌++◌, Bool, Option, Some, None, Result, Ok, Err, OnOk, OnErr, if◌then◌else◌, is_none, slice_index_or, drop, map}
use Rattle.std.specs.Char.{to_ascii_uppercase, to_ascii_lowercase}
use Rattle.std.specs.declared.fmt.Error.{Error as FmtError}
use Rattle.arraystring_base.specs.Text.{size, cut, front, back}
use Rattle.arraystring_core.specs.Stored.{StringView}
use Rattle.arraystring_base.specs.declared.error.Error.{Error}
use Rattle.arraystring_base.specs.declared.error.Error.TheVariants as error
use Rattle.arraystring_base.specs.declared.error.OutOfBounds.{OutOfBounds}
use Rattle.arraystring_base.specs.declared.error.Utf8.{Utf8}
-- Callers import these definitions from here.
pub use Rattle.arraystring_core.specs.Causes.{RefusalCause, Past, Room, Inside, error_of, RefusalTest, past_text_test, reversed_range_test, at_or_past_end_test, inside_character_test, no_room_test, first_cause}
pub use Rattle.arraystring_core.specs.Held.{NoTestHolds, IsFirstCause}
pub use Rattle.arraystring_core.specs.Parts.{first_character, last_character, all_but_last, without_leading, without_trailing, part, checked_part}
unfoldable pub use Rattle.arraystring_core.specs.WhiteSpace.{equals_space, in_ranges, is_white_space}

-- one row of the table of edits (docs/trust.md): the tests in their order, and, if no test holds, what the edit returns and the text
-- after it
pub record Edit (A : Type 0) : Type 0 where
  pub tests : List RefusalTest
  pub result : A
  pub after : List ℕ

-- the error of the cause, or the value if there is no cause
abbrev pub ok_unless_cause : {A : Type 0} → Option RefusalCause → A → Result A Error
ok_unless_cause None value = Ok value
ok_unless_cause (Some cause) value = Err (error_of cause)

-- the value that the edit returns: its result if no test holds, and else the error of the first test that holds
abbrev pub result_of : {A : Type 0} → Edit A → Result A Error
result_of edit = ok_unless_cause (first_cause edit.tests) edit.result

-- the text after the edit: `edit.after` if no test holds, and else t, the text before
abbrev pub text_after_edit : {A : Type 0} → Edit A → List ℕ → List ℕ
text_after_edit edit t = if is_none (first_cause edit.tests) then edit.after else t

-- on the text t a call did what the edit says: if no test holds, it returned the result of the edit, and the new text is that of the edit.
-- Else it returned the error of the first test that holds, and the text stayed t
pub record Makes {A : Type 0} (edit : Edit A) (t : List ℕ) (result : Result A Error) (new : List ℕ) : Type 0 where
  pub returns : result ≡ result_of edit
  pub ok : OnOk result (new ≡ edit.after)
  pub err : OnErr result (new ≡ t)

-- the result of a call whose only error is `OutOfBounds`, with that error as a case of `Error`, as `Makes` takes it
abbrev pub map_err_from_out_of_bounds : {A : Type 0} → Result A OutOfBounds → Result A Error
map_err_from_out_of_bounds (Ok value) = Ok value
map_err_from_out_of_bounds (Err e) = Err error.OutOfBounds

-- the result of `write_str`, as `Makes` takes it: its `fmt::Error` of std, which says here that the text does not fit, becomes
-- `OutOfBounds`, a case of `Error`
abbrev pub map_err_from_fmt : {A : Type 0} → Result A FmtError → Result A Error
map_err_from_fmt (Ok value) = Ok value
map_err_from_fmt (Err e) = Err error.OutOfBounds

-- the result of a call whose only error is `Utf8`, with that error as a case of `Error`, as `Makes` takes it
abbrev pub map_err_from_utf8 : {A : Type 0} → Result A Utf8 → Result A Error
map_err_from_utf8 (Ok value) = Ok value
map_err_from_utf8 (Err e) = Err error.Utf8

-- the result of a call that returns a string, with the text in place of the string, as `Makes` takes it
abbrev pub string_result_as_text : Result StringView Error → Result (List ℕ) Error
string_result_as_text (Ok s) = Ok s.text
string_result_as_text (Err e) = Err e

-- Each definition below is a row of the table of edits (docs/trust.md).

-- all of `given` is put at the end
abbrev pub addition : List ℕ → List ℕ → ℕ → Edit (Unit {0})
addition t given n = record { tests = no_room_test (size t + size given) n ∷ []; result = tt; after = t ++ given }

-- the longest prefix of `given` that fits is put at the end
abbrev pub addition_of_cut : List ℕ → List ℕ → ℕ → Edit (Unit {0})
addition_of_cut t given n = record { tests = []; result = tt; after = t ++ cut given (n - size t) }

-- the last character is taken out and returned, if there is one
abbrev pub popping : List ℕ → Edit (Option ℕ)
popping t = record { tests = []; result = last_character t; after = all_but_last t }

-- all of `given` is put at i
abbrev pub insertion : List ℕ → ℕ → List ℕ → ℕ → Edit (Unit {0})
insertion t i given n = record {
  tests = past_text_test t i ∷ no_room_test (size t + size given) n ∷ inside_character_test t i ∷ [];
  result = tt;
  after = front t i ++ (given ++ back t i);
}

-- the longest prefix of `given` that fits is put at i
abbrev pub insertion_of_cut : List ℕ → ℕ → List ℕ → ℕ → Edit (Unit {0})
insertion_of_cut t i given n = record {
  tests = past_text_test t i ∷ inside_character_test t i ∷ [];
  result = tt;
  after = front t i ++ (cut given (n - size t) ++ back t i);
}

-- the part from i on is dropped; if i is past the text, nothing is dropped
abbrev pub truncation : List ℕ → ℕ → Edit (Unit {0})
truncation t i = record { tests = inside_character_test t i ∷ []; result = tt; after = front t i }

-- at both ends the characters for which `passes` is true are dropped, up to the first for which it is false
abbrev pub trimming_matches : (ℕ → Bool) → List ℕ → Edit (Unit {0})
trimming_matches passes t = record { tests = []; result = tt; after = without_leading passes (without_trailing passes t) }

-- the character that begins at i is taken out and returned. (If i is at the end or past it, `slice_index_or` gives its last argument, 0,
-- but then the first test holds, and no call returns the 0)
abbrev pub removal : List ℕ → ℕ → Edit ℕ
removal t i = record {
  tests = at_or_past_end_test t i ∷ inside_character_test t i ∷ [];
  result = slice_index_or (back t i) 0 0;
  after = front t i ++ drop 1 (back t i);
}

-- all of the text is dropped
abbrev pub clearing : Edit (Unit {0})
clearing = record { tests = []; result = tt; after = [] }

-- the part from i on is taken out and returned
abbrev pub split : List ℕ → ℕ → Edit (List ℕ)
split t i = record { tests = past_text_test t i ∷ inside_character_test t i ∷ []; result = back t i; after = front t i }

-- a to z become A to Z
abbrev pub uppercase : List ℕ → Edit (Unit {0})
uppercase t = record { tests = []; result = tt; after = map to_ascii_uppercase t }

-- A to Z become a to z
abbrev pub lowercase : List ℕ → Edit (Unit {0})
lowercase t = record { tests = []; result = tt; after = map to_ascii_lowercase t }

-- the part between two boundaries is taken out and returned
abbrev pub draining : List ℕ → ℕ → ℕ → Edit (List ℕ)
draining t start end = record {
  tests = reversed_range_test start end ∷ past_text_test t end ∷ inside_character_test t start ∷ inside_character_test t end ∷ [];
  result = part t start end;
  after = front t start ++ back t end;
}

-- the part between two boundaries is replaced by `given`; the text that this leaves has to fit
abbrev pub replacement : List ℕ → ℕ → ℕ → List ℕ → ℕ → Edit (Unit {0})
replacement t start end given n = record {
  tests = reversed_range_test start end ∷ past_text_test t end ∷ no_room_test (size t - (end - start) + size given) n ∷ inside_character_test t start ∷ inside_character_test t end ∷ [];
  result = tt;
  after = front t start ++ (given ++ back t end);
}
