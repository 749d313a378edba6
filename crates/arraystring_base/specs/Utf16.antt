-- These definitions say how UTF-16 is read (Unicode Standard, sections 3.8 and 3.9), where a call stops in what it reads, and which units a
-- text has. Numbers are natural numbers here, so that no sum overflows.
use Rattle.std.specs.Prelude.{◌≡◌, ℕ, ◌+◌, ◌-◌, ◌/◌, ◌%◌, ◌<◌, ◌≤◌, List, [], ◌∷◌, ◌++◌, map, nat_lt, nat_le, if◌then◌else◌}
use Rattle.std.specs.List.{All}
use Rattle.arraystring_base.specs.Text.{IsScalarValue, width, size}
use Rattle.arraystring_base.specs.declared.utf16.Unit16.{Unit16}
use Rattle.arraystring_base.specs.declared.utf16.Unit16.TheVariants.{Char, Lone}

-- a high surrogate, which begins a pair (3.8)
abbrev pub IsHigh : ℕ → Type 0
IsHigh unit = (0xD800 ≤ unit) × (unit < 0xDC00)

-- a low surrogate, which ends a pair (3.8)
abbrev pub IsLow : ℕ → Type 0
IsLow unit = (0xDC00 ≤ unit) × (unit < 0xE000)

-- the UTF-16 of a character: one unit up to FFFF, and a high and a low surrogate above (3.9, table 3-5)
abbrev pub utf16 : ℕ → List ℕ
utf16 c =
    if nat_lt c 0x1_0000 then c ∷ [] else (0xD800 + (c - 0x1_0000) / 0x400) ∷ (0xDC00 + (c - 0x1_0000) % 0x400) ∷ []

-- the UTF-16 of a text
abbrev pub text_units : List ℕ → List ℕ
text_units [] = []
text_units (c ∷ cs) = utf16 c ++ text_units cs

-- the number in an item is what its case says: a scalar value in `Char`, a surrogate in `Lone`
abbrev pub IsValidItem : Unit16 → Type 0
IsValidItem (Char c) = IsScalarValue c
IsValidItem (Lone unit) = (0xD800 ≤ unit) × (unit < 0xE000)

-- the UTF-16 units that are read as this item
abbrev pub item_units : Unit16 → List ℕ
item_units (Char c) = utf16 c
item_units (Lone unit) = unit ∷ []

-- the units of items, one after the other
abbrev pub joined_units : List Unit16 → List ℕ
joined_units [] = []
joined_units (item ∷ items) = item_units item ++ joined_units items

-- no lone high surrogate comes directly before a lone low one
abbrev pub NoPairApart : List Unit16 → Type 0
NoPairApart items =
    (before after : List Unit16) (high low : ℕ) → items ≡ before ++ Lone high ∷ Lone low ∷ after → IsHigh high → IsLow low → ⊥

-- the items are a reading of the units (3.9): each unit is below 0x10000, each item is valid, the units of all items, joined, are these
-- units, and no pair is read as two lone surrogates. Such units have exactly one reading (`only_reading`), and that of the units of a text
-- has exactly the characters of the text (`text_units_read_as_text`)
pub record IsReading (units : List ℕ) (items : List Unit16) : Type 0 where
  pub each_unit : All (λ unit. unit < 0x1_0000) units
  pub each_item : All IsValidItem items
  pub joined : units ≡ joined_units items
  pub apart : NoPairApart items

-- how far a call got that takes characters, as long as they fit, from the items as which UTF-16 is read. Each case has the characters that
-- it took, and says what comes right behind them: nothing (`End`), a lone surrogate (`Fault`), or a character that does not fit (`Full`)
pub data DecodingStop : Type 0 where
  End : List ℕ → DecodingStop
  Fault : List ℕ → DecodingStop
  Full : List ℕ → DecodingStop

-- a call that takes characters from these items, with room for n bytes, ends at this stop: the items begin with the characters of the stop,
-- which fit, and the case of the stop says what comes right behind them
abbrev pub IsStopOf : List Unit16 → ℕ → DecodingStop → Type 0
IsStopOf items n (End prefix) = (items ≡ map Char prefix) × (size prefix ≤ n)
IsStopOf items n (Fault prefix) =
    (unit : ℕ) × (rest : List Unit16) × (items ≡ map Char prefix ++ Lone unit ∷ rest) × (size prefix ≤ n)
IsStopOf items n (Full prefix) =
    (c : ℕ) × (rest : List Unit16) × (items ≡ map Char prefix ++ Char c ∷ rest) × (size prefix ≤ n) × (n < size prefix + width c)

-- a given stop, with the character c put before those that were taken; its case stays
abbrev pub prepend_to_stop : ℕ → DecodingStop → DecodingStop
prepend_to_stop c (End prefix) = End (c ∷ prefix)
prepend_to_stop c (Fault prefix) = Fault (c ∷ prefix)
prepend_to_stop c (Full prefix) = Full (c ∷ prefix)

-- the stop of a call that takes characters from the items as long as they fit into n bytes (`only_first_stop`)
abbrev pub first_stop : List Unit16 → ℕ → DecodingStop
first_stop [] n = End []
first_stop (Lone unit ∷ items) n = Fault []
first_stop (Char c ∷ items) n = if nat_le (width c) n then prepend_to_stop c (first_stop items (n - width c)) else Full []

-- an item as a character: a lone surrogate becomes U+FFFD
abbrev pub char_or_replacement : Unit16 → ℕ
char_or_replacement (Char c) = c
char_or_replacement (Lone unit) = 0xFFFD

-- items as a text: each lone surrogate becomes U+FFFD (3.9)
abbrev pub lossy_text : List Unit16 → List ℕ
lossy_text items = map char_or_replacement items
