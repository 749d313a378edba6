-- A text is a list of characters, and this file defines its UTF-8 (Unicode Standard, section 3.9). Numbers are natural numbers here, so
-- that no sum overflows. A name in parentheses is that of a law, which proves what the comment says.
use Rattle.std.specs.Prelude.{◌≡◌, ℕ, ◌+◌, ◌-◌, ◌/◌, ◌%◌, ◌<◌, ◌≤◌, ◌⊎◌, ◌==◌, ⊤, Bool, min, List, [], ◌∷◌, ◌++◌, if◌then◌else◌, nat_lt, nat_le}

-- a Unicode scalar value: any code point but a surrogate (3.9)
abbrev pub IsScalarValue : ℕ → Type 0
IsScalarValue c = (c < 0xD800) ⊎ ((0xE000 ≤ c) × (c < 0x11_0000))

-- a text: each of its characters is a scalar value, as in every `&str` (`str_is_text`)
abbrev pub IsText : List ℕ → Type 0
IsText [] = ⊤
IsText (c ∷ cs) = IsScalarValue c × IsText cs

-- the number of bytes of UTF-8 that a character takes
unfoldable pub width : ℕ → ℕ
width c = if nat_lt c 0x80 then 1 else if nat_lt c 0x800 then 2 else if nat_lt c 0x1_0000 then 3 else 4

-- a byte of UTF-8 that is not the first of its character: it holds the last six bits of `bits`
abbrev pub continuation : ℕ → ℕ
continuation bits = 0x80 + bits % 64

-- the UTF-8 of a character: one to four bytes, by the range that the character is in (3.9, table 3-6)
unfoldable pub utf8 : ℕ → List ℕ
utf8 c =
    if nat_lt c 0x80 then c ∷ [] else
    if nat_lt c 0x800 then (0xC0 + c / 64) ∷ continuation c ∷ [] else
    if nat_lt c 0x1_0000 then (0xE0 + c / 4096) ∷ continuation (c / 64) ∷ continuation c ∷ [] else
    (0xF0 + c / 262144) ∷ continuation (c / 4096) ∷ continuation (c / 64) ∷ continuation c ∷ []

-- the number of bytes of UTF-8 that a text takes
abbrev pub size : List ℕ → ℕ
size [] = 0
size (c ∷ cs) = width c + size cs

-- the UTF-8 of a text, which no other text has (`equal_bytes_are_one_text`)
abbrev pub bytes : List ℕ → List ℕ
bytes [] = []
bytes (c ∷ cs) = utf8 c ++ bytes cs

-- well-formed UTF-8: the bytes of some text (3.9)
abbrev pub IsWellFormed : List ℕ → Type 0
IsWellFormed bs = (t : List ℕ) × (IsText t × (bytes t ≡ bs))

-- the capacity of an array of N bytes: N, but at most 255, because a length is kept in one byte
abbrev pub cap : ℕ → ℕ
cap n = min n 255

-- the longest prefix of t of size at most n
abbrev pub cut : List ℕ → ℕ → List ℕ
cut [] n = []
cut (c ∷ cs) n = if nat_le (width c) n then c ∷ cut cs (n - width c) else []

-- the part of t before the boundary i
abbrev pub front : List ℕ → ℕ → List ℕ
front t i = cut t i

-- the part of t from the boundary i on
abbrev pub back : List ℕ → ℕ → List ℕ
back [] i = []
back (c ∷ cs) i = if nat_le (width c) i then back cs (i - width c) else c ∷ cs

-- whether i is a boundary of t: the longest prefix that fits into i bytes fills them
abbrev pub boundary : List ℕ → ℕ → Bool
boundary t i = size (front t i) == i

-- p is a prefix of t
abbrev pub IsPrefix : List ℕ → List ℕ → Type 0
IsPrefix p t = (rest : List ℕ) × (t ≡ p ++ rest)

-- p is a prefix of t of size at most n, and each such prefix is a prefix of p
pub record IsLongestFitting (p t : List ℕ) (n : ℕ) : Type 0 where
  pub prefix : IsPrefix p t
  pub fits : size p ≤ n
  pub longest : (q : List ℕ) → IsPrefix q t → size q ≤ n → IsPrefix q p

-- a comes before b in the order of `str` (`order_of_bytes`, `texts_are_totally_ordered`): a is a prefix of b and shorter, or b has the
-- greater character where they first differ
abbrev pub IsBefore : List ℕ → List ℕ → Type 0
IsBefore a b =
    ((c : ℕ) × (rest : List ℕ) × (b ≡ a ++ c ∷ rest))
    ⊎ ((p : List ℕ) × (c : ℕ) × (d : ℕ) × (x : List ℕ) × (y : List ℕ) × (a ≡ p ++ c ∷ x) × (b ≡ p ++ d ∷ y) × (c < d))
