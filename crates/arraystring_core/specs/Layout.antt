-- These definitions say where the text of an `ArrayString` or a `Drain` lies in its array.
use Rattle.std.specs.Prelude.{◌≡◌, ℕ, ◌+◌, ◌≤◌, List, ◌∷◌, ◌++◌, length, take, drop, chars, slice_index, IsUtf8, IsTrue}
use Rattle.arraystring_base.specs.Text.{bytes, cap, boundary}
use Rattle.arraystring_core.specs.Stored.{StringView}

-- the view of the string whose text is the n bytes of the array from `start` on. Its `spare` holds the rest of the string as one list:
-- first the number `start`, then the bytes before the text, and then those behind it (`array_of` puts the array together again)
abbrev pub string_in : List ℕ → ℕ → ℕ → StringView
string_in array start n = record {
  text = chars (take n (drop start array));
  spare = start ∷ (take start array ++ drop n (drop start array));
}

-- the invariant of a string: its array has `array_size` bytes, and the n bytes from `start` on, its text, are UTF-8 and end within the
-- capacity
pub record MeetsStringInvariant (array_size : ℕ) (array : List ℕ) (start n : ℕ) : Type 0 where
  pub within : start + n ≤ cap array_size
  pub length : length array ≡ array_size
  pub utf8 : ∥ IsUtf8 (take n (drop start array)) ∥₁

-- the invariant of a `Drain`: the n bytes of its array from `start` on are the removed text without what was given from the back. The first
-- i of these bytes are what was given from the front, and i is a boundary
pub record MeetsDrainInvariant (array_size : ℕ) (array : List ℕ) (start n i : ℕ) : Type 0 where
  pub in_array : MeetsStringInvariant array_size array start n
  pub at : IsTrue (boundary (string_in array start n).text i)

-- the offset at which the text of a string starts in its array, computed from what a contract sees of the string
abbrev pub start_of : StringView → ℕ
start_of v = slice_index v.spare 0

-- the array of a string, put together from what a contract sees of the string
abbrev pub array_of : StringView → List ℕ
array_of v = take (start_of v) (drop 1 v.spare) ++ (bytes v.text ++ drop (start_of v) (drop 1 v.spare))
