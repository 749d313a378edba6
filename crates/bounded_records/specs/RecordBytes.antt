-- The record of a user has 27 bytes, in two fields. A field for N bytes is one byte that counts the bytes of a text, and N bytes after it:
-- the UTF-8 of the text, and then zero bytes.
use Rattle.std.specs.Prelude.{◌≡◌, ℕ, ◌+◌, ◌-◌, ◌≤◌, List, ◌∷◌, ◌++◌, length, take, drop, replicate, slice_index}
use Rattle.std.specs.List.{All}
use Rattle.arraystring.specs.Text.{size, bytes, IsText, IsWellFormed}
use Rattle.bounded_records.specs.declared.record.RecordFault.{RecordFault}
use Rattle.bounded_records.specs.declared.record.RecordFault.TheVariants.{Length, Count, Utf8, Padding}

-- the field for `room` bytes that holds a text: the number of its bytes, its UTF-8, and then zero bytes
abbrev pub field_of : ℕ → List ℕ → List ℕ
field_of room text = size text ∷ (bytes text ++ replicate (room - size text) 0)

-- the record of a user: the username in a field for 20 bytes, the role in one for 5 (CALLING.md, The record)
abbrev pub record_of : List ℕ → List ℕ → List ℕ
record_of username role = field_of 20 username ++ field_of 5 role

-- the bytes are the record of a user with this username and this role, which fit their fields
pub record IsRecord (record_bytes username role : List ℕ) : Type 0 where
  pub username_text : IsText username
  pub role_text : IsText role
  pub username_fits : size username ≤ 20
  pub role_fits : size role ≤ 5
  pub same : record_bytes ≡ record_of username role

-- the field of the username: the first 21 of 27 bytes
abbrev pub username_field : List ℕ → List ℕ
username_field bs = take 21 bs

-- the field of the role: the last six of 27 bytes
abbrev pub role_field : List ℕ → List ℕ
role_field bs = drop 21 bs

-- the number of bytes of text in a field, which its first byte says
abbrev pub count : List ℕ → ℕ
count field = slice_index field 0

-- the bytes of a field that are counted: as many bytes behind the first byte as the first byte says
abbrev pub counted_bytes : List ℕ → List ℕ
counted_bytes field = take (count field) (drop 1 field)

-- the bytes of a field behind those that are counted
abbrev pub uncounted_bytes : List ℕ → List ℕ
uncounted_bytes field = drop (1 + count field) field

-- the first of the four tests of `decode`: there are 27 bytes
abbrev pub HasRecordSize : List ℕ → Type 0
HasRecordSize bs = length bs ≡ 27

-- the second test of `decode`: each count is at most the room of its field
abbrev pub CountsFit : List ℕ → Type 0
CountsFit bs = (count (username_field bs) ≤ 20) × (count (role_field bs) ≤ 5)

-- the third test of `decode`: the counted bytes of both fields are well-formed UTF-8
abbrev pub AreWellFormed : List ℕ → Type 0
AreWellFormed bs = IsWellFormed (counted_bytes (username_field bs)) × IsWellFormed (counted_bytes (role_field bs))

-- the fourth test of `decode`: in both fields the bytes behind those that are counted are zero
abbrev pub ArePadded : List ℕ → Type 0
ArePadded bs = All (λ b. b ≡ 0) (uncounted_bytes (username_field bs)) × All (λ b. b ≡ 0) (uncounted_bytes (role_field bs))

-- the bytes fail the test of `decode` that gives this fault, and pass each test before it
abbrev pub IsFirstFault : List ℕ → RecordFault → Type 0
IsFirstFault bs Length = ¬ (HasRecordSize bs)
IsFirstFault bs Count = HasRecordSize bs × ¬ (CountsFit bs)
IsFirstFault bs Utf8 = HasRecordSize bs × CountsFit bs × ¬ (AreWellFormed bs)
IsFirstFault bs Padding = HasRecordSize bs × CountsFit bs × AreWellFormed bs × ¬ (ArePadded bs)
