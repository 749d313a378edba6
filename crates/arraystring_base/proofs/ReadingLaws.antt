-- Units have one reading, and it is the one that is found from the last unit on.
use Rattle.std.proofs.Common.{◌≡◌, ◌↔◌, ℕ, ◌+◌, ◌-◌, ◌/◌, ◌%◌, ◌<◌, ◌≤◌, List, [], ◌∷◌, ◌++◌, refl, sym, ap, ◌∙◌, arith, inl, inr, map, ◌&&◌}
use Rattle.std.specs.List.{All}
use Rattle.std.proofs.lemmas.List.Elements.{All-nil, All-cons, All-head, All-tail, All-append}
use Rattle.std.proofs.lemmas.Bool.{lt-ltb, le-ltb, cases_lt, cond_both}
use Rattle.std.proofs.lemmas.Bool.Decides.{nat_tests}
use Rattle.arraystring_base.specs.declared.utf16.Unit16.{Unit16}
use Rattle.arraystring_base.specs.declared.utf16.Unit16.TheVariants.{Char, Lone}
use Rattle.arraystring_base.specs.Text.{IsScalarValue, IsText}
use Rattle.arraystring_base.specs.Utf16.{IsHigh, IsLow, utf16, text_units, item_units, joined_units, IsValidItem, NoPairApart, IsReading}
use Rattle.arraystring_base.specs.Reading.{is_high_surrogate, is_low_surrogate, pair_character, item_of_unpaired_unit, prepend_unit, reading}

abbrev IsUnit : ℕ → Type 0
IsUnit unit = unit < 0x1_0000

-- what a unit is by itself: `grind` takes the two cases of `item_of_unpaired_unit`, a surrogate or none, and the ranges decide the rest
pub item_of_unpaired_unit-character : (u : ℕ) → IsScalarValue u → item_of_unpaired_unit u ≡ Char u
unfolding item_of_unpaired_unit
item_of_unpaired_unit-character u h = grind (arith, nat_tests)

pub item_of_unpaired_unit-lone : (u : ℕ) → 0xD800 ≤ u → u < 0xE000 → item_of_unpaired_unit u ≡ Lone u
unfolding item_of_unpaired_unit
item_of_unpaired_unit-lone u above below = grind (arith, nat_tests)

item_of_unpaired_unit-same : (u low : ℕ) → item_of_unpaired_unit u ≡ Lone low → u ≡ low
unfolding item_of_unpaired_unit
item_of_unpaired_unit-same u low e = grind (arith, nat_tests)

item_of_unpaired_unit-spells : (u : ℕ) → u < 0x1_0000 → item_units (item_of_unpaired_unit u) ≡ u ∷ []
unfolding item_of_unpaired_unit
item_of_unpaired_unit-spells u small = grind (arith, nat_tests)

item_of_unpaired_unit-is : (u : ℕ) → u < 0x1_0000 → IsValidItem (item_of_unpaired_unit u)
unfolding item_of_unpaired_unit
item_of_unpaired_unit-is u small = grind (arith, nat_tests)

-- a high unit takes the low one after it, and any other is an item by itself: for `grind` the ranges decide the test of
-- `prepend_unit`, which `apart` says is false
prepend_unit-pair : (high low : ℕ) (items : List Unit16) → IsHigh high → IsLow low
    → prepend_unit high (Lone low ∷ items) ≡ Char (pair_character high low) ∷ items
unfolding prepend_unit
prepend_unit-pair high low items h l = grind (arith, nat_tests)

prepend_unit-single : (unit : ℕ) (items : List Unit16)
    → ((low : ℕ) (rest : List Unit16) → items ≡ Lone low ∷ rest → IsHigh unit → IsLow low → ⊥)
    → prepend_unit unit items ≡ item_of_unpaired_unit unit ∷ items
unfolding prepend_unit
prepend_unit-single unit [] apart = refl
prepend_unit-single unit (Char c ∷ items) apart = refl
prepend_unit-single unit (Lone next ∷ items) apart = grind (arith, nat_tests, apart next items refl)

-- if the first item is lone, it is the first unit: of a pair it would be a character, so `grind` is left with `item_of_unpaired_unit v`
prepend_unit-first : (v : ℕ) (items : List Unit16) (low : ℕ) (rest : List Unit16) → prepend_unit v items ≡ Lone low ∷ rest → v ≡ low
unfolding prepend_unit
prepend_unit-first v [] low rest e = item_of_unpaired_unit-same v low (cc)
prepend_unit-first v (Char c ∷ items) low rest e = item_of_unpaired_unit-same v low (cc)
prepend_unit-first v (Lone next ∷ items) low rest e = grind (arith, nat_tests, item_of_unpaired_unit-same v low)

reading-first : (units : List ℕ) (low : ℕ) (rest : List Unit16) → reading units ≡ Lone low ∷ rest
    → (more : List ℕ) × (units ≡ low ∷ more)
reading-first [] low rest e = absurd (cc)
reading-first (v ∷ units) low rest e = (units, ap (λ x. x ∷ units) (prepend_unit-first v (reading units) low rest e))

-- the reading, by what comes first
pub reading-single : (unit : ℕ) (units : List ℕ) → ((low : ℕ) (more : List ℕ) → units ≡ low ∷ more → IsHigh unit → IsLow low → ⊥)
    → reading (unit ∷ units) ≡ item_of_unpaired_unit unit ∷ reading units
reading-single unit units apart =
    prepend_unit-single unit (reading units) (λ low rest e. let first = reading-first units low rest e in apart low first.0 first.1)

pub reading-pair : (high low : ℕ) (units : List ℕ) → IsHigh high → IsLow low
    → reading (high ∷ low ∷ units) ≡ Char (pair_character high low) ∷ reading units
reading-pair high low units h l =
    rw (reading-single low units (λ other more e is. omega arith), item_of_unpaired_unit-lone low (omega arith) l.1)
    (prepend_unit-pair high low (reading units) h l)

-- a scalar value below 1_0000 is no high unit, and any other is below 11_0000: `grind` takes its two ranges
reading-character : (c : ℕ) (units : List ℕ) → IsScalarValue c → reading (utf16 c ++ units) ≡ Char c ∷ reading units
reading-character c units h = elim (cases_lt c 0x1_0000) [
  | inl one ↦
      rw (lt-ltb c 0x1_0000 one, ← item_of_unpaired_unit-character c h) (reading-single c units (λ low rest e high l. absurd (grind arith)))
  | inr two ↦
      let top : c < 0x11_0000 = grind arith in
      let high = 0xD800 + (c - 0x1_0000) / 0x400 in
      let low = 0xDC00 + (c - 0x1_0000) % 0x400 in
      let whole : pair_character high low ≡ c = omega arith in
      rw (le-ltb c 0x1_0000 two)
      (reading-pair high low units (omega arith, omega arith) (omega arith, omega arith) ∙ ap (λ d. Char d ∷ reading units) whole)
]

-- any reading is this one
tail-apart : (item : Unit16) (items : List Unit16) → NoPairApart (item ∷ items) → NoPairApart items
tail-apart item items apart before after high low e = apart (item ∷ before) after high low (cc)

reading-joined : (items : List Unit16) → All IsValidItem items → NoPairApart items → reading (joined_units items) ≡ items
reading-joined [] each apart = refl
reading-joined (item ∷ items) each apart =
    first item (All-head IsValidItem item items each) apart
    (reading-joined items (All-tail IsValidItem item items each) (tail-apart item items apart))
  where
    first : (item : Unit16) → IsValidItem item → NoPairApart (item ∷ items) → reading (joined_units items) ≡ items
        → reading (joined_units (item ∷ items)) ≡ item ∷ items
    first (Char c) is apart rest = reading-character c (joined_units items) is ∙ ap (λ l. Char c ∷ l) rest
    first (Lone u) is apart rest =
        rw (rest, prepend_unit-single u items (λ low more e. apart [] more u low (cc)), item_of_unpaired_unit-lone u is.0 is.1)

reading-is : (units : List ℕ) (items : List Unit16) → IsReading units items → reading units ≡ items
reading-is units items is = rw is.joined (reading-joined items is.each_item is.apart)

pub reading-only : (units : List ℕ) (a b : List Unit16) → IsReading units a → IsReading units b → a ≡ b
reading-only units a b p q = sym (reading-is units a p) ∙ reading-is units b q

-- and it is a reading
cons-apart : (item : Unit16) (items : List Unit16)
    → ((high low : ℕ) (rest : List Unit16) → item ≡ Lone high → items ≡ Lone low ∷ rest → IsHigh high → IsLow low → ⊥)
    → NoPairApart items → NoPairApart (item ∷ items)
cons-apart item items first apart [] after high low e = first high low after (cc) (cc)
cons-apart item items first apart (other ∷ before) after high low e = apart before after high low (cc)

nil-apart : NoPairApart []
nil-apart [] after high low e h l = absurd (cc)
nil-apart before after high low e h l = absurd (cc)

single-reads : (unit : ℕ) (units : List ℕ) (items : List Unit16) → unit < 0x1_0000 → IsReading units items
    → ((low : ℕ) (rest : List Unit16) → items ≡ Lone low ∷ rest → IsHigh unit → IsLow low → ⊥)
    → IsReading (unit ∷ units) (item_of_unpaired_unit unit ∷ items)
single-reads unit units items small is apart = record {
  each_unit = All-cons IsUnit unit units small is.each_unit;
  each_item = All-cons IsValidItem (item_of_unpaired_unit unit) items (item_of_unpaired_unit-is unit small) is.each_item;
  joined = rw (item_of_unpaired_unit-spells unit small, ← is.joined);
  apart = cons-apart (item_of_unpaired_unit unit) items (λ high low rest e. rw (item_of_unpaired_unit-same unit high e) at (apart low rest)) is.apart;
}

-- the character of a pair is above FFFF, so `utf16` splits it, at the multiple of 400 of which it was made
utf16-pair : (high low : ℕ) → IsHigh high → IsLow low → utf16 (pair_character high low) ≡ high ∷ low ∷ []
utf16-pair high low h l = grind (arith, nat_tests)

pair-reads : (high low : ℕ) (units : List ℕ) (items : List Unit16) → high < 0x1_0000 → IsReading units (Lone low ∷ items)
    → IsHigh high → IsLow low → IsReading (high ∷ units) (Char (pair_character high low) ∷ items)
pair-reads high low units items small is h l = record {
  each_unit = All-cons IsUnit high units small is.each_unit;
  each_item = All-cons IsValidItem (Char (pair_character high low)) items (inr (omega arith, omega arith))
      (All-tail IsValidItem (Lone low) items is.each_item);
  joined = rw (utf16-pair high low h l, is.joined);
  apart = cons-apart (Char (pair_character high low)) items (λ other next rest e. absurd (cc))
      (tail-apart (Lone low) items is.apart);
}

-- `grind` reads the test: if it is true the two units are a pair, and if they are a pair it is not false
prepend_unit-reads : (unit : ℕ) (units : List ℕ) (items : List Unit16) → unit < 0x1_0000 → IsReading units items
    → IsReading (unit ∷ units) (prepend_unit unit items)
unfolding prepend_unit
prepend_unit-reads unit units [] small is = single-reads unit units [] small is (λ low rest e. absurd (cc))
prepend_unit-reads unit units (Char c ∷ items) small is =
    single-reads unit units (Char c ∷ items) small is (λ low rest e. absurd (cc))
prepend_unit-reads unit units (Lone next ∷ items) small is =
    cond_both (is_high_surrogate unit && is_low_surrogate next) _ _ (IsReading (unit ∷ units))
    (λ both. pair-reads unit next units items small is (grind (arith, nat_tests)) (grind (arith, nat_tests)))
    (λ none. single-reads unit units _ small is (λ low rest e h l. grind (arith, nat_tests)))

pub reading-reads : (units : List ℕ) → All IsUnit units → IsReading units (reading units)
reading-reads [] small = record { each_unit = small; each_item = All-nil IsValidItem; joined = refl; apart = nil-apart }
reading-reads (unit ∷ units) small =
    prepend_unit-reads unit units (reading units) (All-head IsUnit unit units small)
    (reading-reads units (All-tail IsUnit unit units small))

-- the units of a text are read as its characters
reading-text : (t : List ℕ) → IsText t → reading (text_units t) ≡ map Char t
reading-text [] is = refl
reading-text (c ∷ cs) is = reading-character c (text_units cs) is.0 ∙ ap (λ l. Char c ∷ l) (reading-text cs is.1)

-- a scalar value past FFFF is below 11_0000, as `grind` has it from the two ranges
utf16-small : (c : ℕ) → IsScalarValue c → All IsUnit (utf16 c)
utf16-small c h = elim (cases_lt c 0x1_0000) [
  | inl one ↦ rw (lt-ltb c 0x1_0000 one) (All-cons IsUnit c [] one (All-nil IsUnit))
  | inr two ↦
      let top : c < 0x11_0000 = grind arith in
      let high = 0xD800 + (c - 0x1_0000) / 0x400 in
      let low = 0xDC00 + (c - 0x1_0000) % 0x400 in
      rw (le-ltb c 0x1_0000 two)
      (All-cons IsUnit high (low ∷ []) (omega arith) (All-cons IsUnit low [] (omega arith) (All-nil IsUnit)))
]

text_units-small : (t : List ℕ) → IsText t → All IsUnit (text_units t)
text_units-small [] is = All-nil IsUnit
text_units-small (c ∷ cs) is = All-append IsUnit (utf16 c) (text_units cs) (utf16-small c is.0) (text_units-small cs is.1)

pub text-reading : (t : List ℕ) (items : List Unit16) → IsText t → IsReading (text_units t) items ↔ (items ≡ map Char t)
text-reading t items is = (
  λ reads. sym (reading-is (text_units t) items reads) ∙ reading-text t is,
  λ e. rw (e, ← reading-text t is) (reading-reads (text_units t) (text_units-small t is)),
)
