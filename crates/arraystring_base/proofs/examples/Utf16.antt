-- Examples of the words of UTF-16. '𝄞' is U+1D11E, its units are D834 DD1E, and it takes four bytes of UTF-8. 'é' takes two.
use Rattle.std.proofs.Common.{◌≡◌, [], ◌∷◌, ◌++◌, refl, arith, codes, inl, inr, map}
use Rattle.std.proofs.lemmas.List.Elements.{All-nil, All-cons, All-head}
use Rattle.std.proofs.lemmas.Bool.Decides.{nat_tests}
use Rattle.arraystring_base.specs.Utf16.{IsHigh, IsLow, utf16, text_units, IsValidItem, item_units, joined_units, NoPairApart, IsReading, End, Fault, Full, IsStopOf, prepend_to_stop, first_stop, char_or_replacement, lossy_text}
use Rattle.arraystring_base.specs.Text.{width}
use Rattle.arraystring_base.specs.declared.utf16.Unit16.TheVariants.{Char, Lone}

IsHigh-first_and_last : IsHigh 0xD800 × IsHigh 0xDBFF
IsHigh-first_and_last = omega arith

IsHigh-not_before_the_first : IsHigh 0xD7FF → ⊥
IsHigh-not_before_the_first is = omega arith

IsHigh-not_the_first_low : IsHigh 0xDC00 → ⊥
IsHigh-not_the_first_low is = omega arith

IsLow-first_and_last : IsLow 0xDC00 × IsLow 0xDFFF
IsLow-first_and_last = omega arith

IsLow-not_the_last_high : IsLow 0xDBFF → ⊥
IsLow-not_the_last_high is = omega arith

IsLow-not_past_the_last : IsLow 0xE000 → ⊥
IsLow-not_past_the_last is = omega arith

utf16-one_unit : (utf16 0x00 ≡ 0x00 ∷ []) × (utf16 0xFFFF ≡ 0xFFFF ∷ [])
utf16-one_unit = (refl, refl)

utf16-a_pair : (utf16 0x1_0000 ≡ 0xD800 ∷ 0xDC00 ∷ []) × (utf16 0x1_03FF ≡ 0xD800 ∷ 0xDFFF ∷ [])
    × (utf16 0x1_D11E ≡ 0xD834 ∷ 0xDD1E ∷ []) × (utf16 0x10_FFFF ≡ 0xDBFF ∷ 0xDFFF ∷ [])
utf16-a_pair = (refl, refl, refl, refl)

text_units-of_two_characters : (text_units [] ≡ []) × (text_units (codes "𝄞m") ≡ 0xD834 ∷ 0xDD1E ∷ 0x6D ∷ [])
text_units-of_two_characters = (refl, refl)

IsValidItem-a_character : IsValidItem (Char 0xD7FF)
IsValidItem-a_character = inl (omega arith)

IsValidItem-no_surrogate_as_a_character : IsValidItem (Char 0xD800) → ⊥
IsValidItem-no_surrogate_as_a_character is = omega arith

IsValidItem-each_surrogate_alone : IsValidItem (Lone 0xD800) × IsValidItem (Lone 0xDFFF)
IsValidItem-each_surrogate_alone = omega arith

IsValidItem-no_other_unit_before_them : IsValidItem (Lone 0xD7FF) → ⊥
IsValidItem-no_other_unit_before_them is = omega arith

IsValidItem-no_other_unit_past_them : IsValidItem (Lone 0xE000) → ⊥
IsValidItem-no_other_unit_past_them is = omega arith

item_units-of_each_kind : (item_units (Char 0x1_D11E) ≡ 0xD834 ∷ 0xDD1E ∷ []) × (item_units (Lone 0xDC00) ≡ 0xDC00 ∷ [])
item_units-of_each_kind = (refl, refl)

joined_units-of_two_items : (joined_units [] ≡ []) × (joined_units (Lone 0xDC00 ∷ Char 0x1_D11E ∷ []) ≡ 0xDC00 ∷ 0xD834 ∷ 0xDD1E ∷ [])
joined_units-of_two_items = (refl, refl)

NoPairApart-low_before_high : NoPairApart (Lone 0xDC00 ∷ Lone 0xD800 ∷ [])
NoPairApart-low_before_high [] after high low e is_high_surrogate is_low_surrogate = grind arith
NoPairApart-low_before_high (x ∷ []) after high low e is_high_surrogate is_low_surrogate = cc
NoPairApart-low_before_high (x ∷ y ∷ []) after high low e is_high_surrogate is_low_surrogate = cc
NoPairApart-low_before_high (x ∷ y ∷ z ∷ before) after high low e is_high_surrogate is_low_surrogate = cc

NoPairApart-not_the_units_of_a_pair : NoPairApart (Lone 0xD834 ∷ Lone 0xDD1E ∷ []) → ⊥
NoPairApart-not_the_units_of_a_pair apart = apart [] [] 0xD834 0xDD1E refl (omega arith) (omega arith)

NoPairApart-not_between_characters : NoPairApart (Char 0x61 ∷ Lone 0xD834 ∷ Lone 0xDD1E ∷ Char 0x62 ∷ []) → ⊥
NoPairApart-not_between_characters apart = apart (Char 0x61 ∷ []) (Char 0x62 ∷ []) 0xD834 0xDD1E refl (omega arith) (omega arith)

NoPairApart-two_high_ones : NoPairApart (Lone 0xD800 ∷ Lone 0xD834 ∷ [])
NoPairApart-two_high_ones [] after high low e is_high_surrogate is_low_surrogate = grind arith
NoPairApart-two_high_ones (x ∷ []) after high low e is_high_surrogate is_low_surrogate = cc
NoPairApart-two_high_ones (x ∷ y ∷ []) after high low e is_high_surrogate is_low_surrogate = cc
NoPairApart-two_high_ones (x ∷ y ∷ z ∷ before) after high low e is_high_surrogate is_low_surrogate = cc

NoPairApart-two_low_ones : NoPairApart (Lone 0xDC00 ∷ Lone 0xDD1E ∷ [])
NoPairApart-two_low_ones [] after high low e is_high_surrogate is_low_surrogate = grind arith
NoPairApart-two_low_ones (x ∷ []) after high low e is_high_surrogate is_low_surrogate = cc
NoPairApart-two_low_ones (x ∷ y ∷ []) after high low e is_high_surrogate is_low_surrogate = cc
NoPairApart-two_low_ones (x ∷ y ∷ z ∷ before) after high low e is_high_surrogate is_low_surrogate = cc

IsReading-lone_ones : IsReading (0xDC00 ∷ 0xD800 ∷ []) (Lone 0xDC00 ∷ Lone 0xD800 ∷ [])
IsReading-lone_ones = record {
  each_unit = search (arith, All-cons, All-nil);
  each_item = search (arith, All-cons, All-nil);
  joined = refl;
  apart = NoPairApart-low_before_high;
}

IsReading-a_pair : IsReading (0xD834 ∷ 0xDD1E ∷ []) (Char 0x1_D11E ∷ [])
IsReading-a_pair = record {
  each_unit = search (arith, All-cons, All-nil);
  each_item = All-cons IsValidItem _ [] (inr (omega arith)) (All-nil IsValidItem);
  joined = refl;
  apart = apart;
}
  where
    apart : NoPairApart (Char 0x1_D11E ∷ [])
    apart [] after high low e is_high_surrogate is_low_surrogate = cc
    apart (x ∷ []) after high low e is_high_surrogate is_low_surrogate = cc
    apart (x ∷ y ∷ before) after high low e is_high_surrogate is_low_surrogate = cc

IsReading-no_surrogate_as_a_character : IsReading (0xD800 ∷ []) (Char 0xD800 ∷ []) → ⊥
IsReading-no_surrogate_as_a_character is = IsValidItem-no_surrogate_as_a_character (All-head IsValidItem _ [] is.each_item)

IsReading-not_of_other_units : IsReading (0x61 ∷ []) (Char 0x62 ∷ []) → ⊥
IsReading-not_of_other_units is = grind (arith, is.joined)

IsReading-no_pair_apart : IsReading (0xD834 ∷ 0xDD1E ∷ []) (Lone 0xD834 ∷ Lone 0xDD1E ∷ []) → ⊥
IsReading-no_pair_apart is = NoPairApart-not_the_units_of_a_pair is.apart

IsReading-the_greatest_unit : IsReading (0xFFFF ∷ []) (Char 0xFFFF ∷ [])
IsReading-the_greatest_unit = record {
  each_unit = search (arith, All-cons, All-nil);
  each_item = All-cons IsValidItem _ [] (inr (omega arith)) (All-nil IsValidItem);
  joined = refl;
  apart = apart;
}
  where
    apart : NoPairApart (Char 0xFFFF ∷ [])
    apart [] after high low e is_high_surrogate is_low_surrogate = cc
    apart (x ∷ []) after high low e is_high_surrogate is_low_surrogate = cc
    apart (x ∷ y ∷ before) after high low e is_high_surrogate is_low_surrogate = cc

DecodingStop-each_kind_is_another : (End [] ≡ Fault [] → ⊥) × (End [] ≡ Full [] → ⊥) × (Fault [] ≡ Full [] → ⊥)
DecodingStop-each_kind_is_another = (λ e. cc, λ e. cc, λ e. cc)

IsStopOf-end : IsStopOf (Char 0x61 ∷ []) 1 (End (codes "a"))
unfolding width
IsStopOf-end = (refl, omega arith)

IsStopOf-no_end_before_an_item : IsStopOf (Char 0x61 ∷ Char 0x62 ∷ []) 2 (End (codes "a")) → ⊥
IsStopOf-no_end_before_an_item is = grind arith

IsStopOf-no_end_past_the_room : IsStopOf (Char 0x61 ∷ []) 0 (End (codes "a")) → ⊥
unfolding width
IsStopOf-no_end_past_the_room is = omega (arith, is.1)

IsStopOf-fault : IsStopOf (Char 0x61 ∷ Lone 0xD800 ∷ Char 0x62 ∷ []) 1 (Fault (codes "a"))
unfolding width
IsStopOf-fault = (0xD800, Char 0x62 ∷ [], refl, omega arith)

IsStopOf-no_fault_at_a_character : IsStopOf (Char 0x61 ∷ Char 0x62 ∷ []) 2 (Fault (codes "a")) → ⊥
IsStopOf-no_fault_at_a_character is = grind arith

IsStopOf-no_fault_past_the_room : IsStopOf (Char 0x61 ∷ Lone 0xD800 ∷ []) 0 (Fault (codes "a")) → ⊥
unfolding width
IsStopOf-no_fault_past_the_room is = omega (arith, is.3)

-- 'é' takes two bytes, and one is left
IsStopOf-full : IsStopOf (Char 0x61 ∷ Char 0xE9 ∷ Lone 0xD800 ∷ []) 2 (Full (codes "a"))
unfolding width
IsStopOf-full = (0xE9, Lone 0xD800 ∷ [], refl, omega arith, omega arith)

IsStopOf-not_full_at_a_fault : IsStopOf (Char 0x61 ∷ Lone 0xD800 ∷ []) 1 (Full (codes "a")) → ⊥
IsStopOf-not_full_at_a_fault is = grind arith

IsStopOf-not_full_past_the_room : IsStopOf (Char 0x61 ∷ Char 0x62 ∷ []) 0 (Full (codes "a")) → ⊥
unfolding width
IsStopOf-not_full_past_the_room is = omega (arith, is.3)

IsStopOf-not_full_before_what_fits : IsStopOf (Char 0x61 ∷ Char 0xE9 ∷ []) 3 (Full (codes "a")) → ⊥
unfolding width
IsStopOf-not_full_before_what_fits is = grind (arith, nat_tests)

IsStopOf-full_behind_what_fills_the_room : IsStopOf (Char 0x61 ∷ Char 0x62 ∷ []) 1 (Full (codes "a"))
unfolding width
IsStopOf-full_behind_what_fills_the_room = (0x62, [], refl, omega arith, omega arith)

prepend_to_stop-keeps_the_kind : (prepend_to_stop 0x61 (End (codes "b")) ≡ End (codes "ab"))
    × (prepend_to_stop 0x61 (Fault (codes "b")) ≡ Fault (codes "ab"))
    × (prepend_to_stop 0x61 (Full (codes "b")) ≡ Full (codes "ab"))
prepend_to_stop-keeps_the_kind = (refl, refl, refl)

-- '𝄞' and 'é' take six bytes: at five 'é' no longer fits, at six the surrogate is met
first_stop-end : (first_stop [] 0 ≡ End []) × (first_stop (map Char (codes "𝄞é")) 6 ≡ End (codes "𝄞é"))
unfolding width
first_stop-end = (refl, refl)

first_stop-full_before_a_fault : first_stop (map Char (codes "𝄞é") ++ Lone 0xD800 ∷ []) 5 ≡ Full (codes "𝄞")
unfolding width
first_stop-full_before_a_fault = refl

first_stop-fault_behind_what_fits : first_stop (map Char (codes "𝄞é") ++ Lone 0xD800 ∷ []) 6 ≡ Fault (codes "𝄞é")
unfolding width
first_stop-fault_behind_what_fits = refl

first_stop-no_later_character : first_stop (Char 0x1_D11E ∷ Char 0x61 ∷ []) 3 ≡ Full []
unfolding width
first_stop-no_later_character = refl

char_or_replacement-each_kind : (char_or_replacement (Char 0x61) ≡ 0x61) × (char_or_replacement (Lone 0xD800) ≡ 0xFFFD)
char_or_replacement-each_kind = (refl, refl)

lossy_text-of_a_lone_one_and_a_pair : (lossy_text [] ≡ []) × (lossy_text (Lone 0xD800 ∷ Char 0x1_D11E ∷ []) ≡ 0xFFFD ∷ 0x1_D11E ∷ [])
lossy_text-of_a_lone_one_and_a_pair = (refl, refl)
