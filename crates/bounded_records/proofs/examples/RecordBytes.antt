-- Examples of records. `codes "user"` is the list of the characters of `"user"`, which are its bytes. C3 A9 is the UTF-8 of `é`.
use Rattle.std.proofs.Common.{◌≡◌, ℕ, zero, suc, List, [], ◌∷◌, ◌++◌, set, replicate, inl, inr, refl, arith, lit≤, lit<, codes}
use Rattle.std.specs.List.{All}
use Rattle.std.proofs.lemmas.List.Elements.{All-replicate}
use Rattle.arraystring.specs.Text.{IsText, IsWellFormed, width, utf8}
use Rattle.bounded_records.specs.RecordBytes.{field_of, record_of, IsRecord, username_field, role_field, count, counted_bytes, uncounted_bytes, HasRecordSize, CountsFit, AreWellFormed, ArePadded, IsFirstFault}
use Rattle.bounded_records.specs.declared.record.RecordFault.TheVariants.{Length, Count, Utf8, Padding}

field_of-ascii : field_of 5 (codes "admin") ≡ 5 ∷ codes "admin"
unfolding width utf8
field_of-ascii = refl

field_of-counts_bytes : field_of 5 (codes "é") ≡ 2 ∷ 0xC3 ∷ 0xA9 ∷ 0 ∷ 0 ∷ 0 ∷ []
unfolding width utf8
field_of-counts_bytes = refl

field_of-empty_text : field_of 5 [] ≡ 0 ∷ 0 ∷ 0 ∷ 0 ∷ 0 ∷ 0 ∷ []
field_of-empty_text = refl

-- the record of the user `user` with the role `admin`
abbrev good : List ℕ
good = 4 ∷ codes "user" ++ replicate 16 0 ++ 5 ∷ codes "admin"

record_of-user_and_admin : record_of (codes "user") (codes "admin") ≡ good
unfolding width utf8
record_of-user_and_admin = refl

record_of-two_empty_texts : record_of [] [] ≡ replicate 27 0
record_of-two_empty_texts = refl

record_of-character_0 : record_of (0 ∷ []) [] ≡ 1 ∷ replicate 26 0
unfolding width utf8
record_of-character_0 = refl

user-text : IsText (codes "user")
user-text = (inl (lit< tt), (inl (lit< tt), (inl (lit< tt), (inl (lit< tt), tt))))

admin-text : IsText (codes "admin")
admin-text = (inl (lit< tt), (inl (lit< tt), (inl (lit< tt), (inl (lit< tt), (inl (lit< tt), tt)))))

letters-text : (n : ℕ) → IsText (replicate n 0x61)
letters-text zero = tt
letters-text (suc n) = (inl (lit< tt), letters-text n)

IsRecord-good : IsRecord good (codes "user") (codes "admin")
unfolding width utf8
IsRecord-good = record {
  username_text = user-text;
  role_text = admin-text;
  username_fits = lit≤ tt;
  role_fits = lit≤ tt;
  same = refl;
}

IsRecord-full : IsRecord (20 ∷ replicate 20 0x61 ++ 5 ∷ replicate 5 0x61) (replicate 20 0x61) (replicate 5 0x61)
unfolding width utf8
IsRecord-full = record {
  username_text = letters-text 20;
  role_text = letters-text 5;
  username_fits = lit≤ tt;
  role_fits = lit≤ tt;
  same = refl;
}

-- U+D800 is a surrogate, and no character of a text
no_text : IsText (0xD800 ∷ []) → ⊥
no_text (inl low, none) = omega arith
no_text (inr high, none) = omega arith

IsRecord-username_with_a_surrogate : IsRecord (record_of (0xD800 ∷ []) []) (0xD800 ∷ []) [] → ⊥
IsRecord-username_with_a_surrogate is = no_text is.username_text

IsRecord-role_with_a_surrogate : IsRecord (record_of [] (0xD800 ∷ [])) [] (0xD800 ∷ []) → ⊥
IsRecord-role_with_a_surrogate is = no_text is.role_text

IsRecord-username_of_21_bytes : IsRecord (record_of (replicate 21 0x61) []) (replicate 21 0x61) [] → ⊥
unfolding width
IsRecord-username_of_21_bytes is = omega (arith, is.username_fits)

IsRecord-role_of_6_bytes : IsRecord (record_of [] (replicate 6 0x61)) [] (replicate 6 0x61) → ⊥
unfolding width
IsRecord-role_of_6_bytes is = omega (arith, is.role_fits)

IsRecord-of_another_user : IsRecord good (codes "user") (codes "adman") → ⊥
unfolding width utf8
IsRecord-of_another_user is = grind (arith, is.same)

-- Fields

username_field-of_27_bytes : username_field good ≡ 4 ∷ codes "user" ++ replicate 16 0
username_field-of_27_bytes = refl

role_field-of_27_bytes : role_field good ≡ 5 ∷ codes "admin"
role_field-of_27_bytes = refl

count-first_byte : count (2 ∷ 0xC3 ∷ 0xA9 ∷ []) ≡ 2
count-first_byte = refl

counted_bytes-after_the_count : counted_bytes (2 ∷ 0xC3 ∷ 0xA9 ∷ 0 ∷ 7 ∷ 0 ∷ []) ≡ 0xC3 ∷ 0xA9 ∷ []
counted_bytes-after_the_count = refl

counted_bytes-none : counted_bytes (0 ∷ 0xC3 ∷ 0xA9 ∷ []) ≡ []
counted_bytes-none = refl

uncounted_bytes-after_the_counted : uncounted_bytes (2 ∷ 0xC3 ∷ 0xA9 ∷ 0 ∷ 7 ∷ 0 ∷ []) ≡ 0 ∷ 7 ∷ 0 ∷ []
uncounted_bytes-after_the_counted = refl

uncounted_bytes-of_a_full_field : uncounted_bytes (2 ∷ 0xC3 ∷ 0xA9 ∷ []) ≡ []
uncounted_bytes-of_a_full_field = refl

-- The four tests, on records with a wrong byte: `set good i b` is the good record with b at i

HasRecordSize-27 : HasRecordSize good
HasRecordSize-27 = refl

HasRecordSize-26 : HasRecordSize (replicate 26 0) → ⊥
HasRecordSize-26 is = omega (arith, is)

HasRecordSize-28 : HasRecordSize (replicate 28 0) → ⊥
HasRecordSize-28 is = omega (arith, is)

CountsFit-good : CountsFit good
CountsFit-good = (lit≤ tt, lit≤ tt)

CountsFit-full : CountsFit (set (set good 0 20) 21 5)
CountsFit-full = (lit≤ tt, lit≤ tt)

CountsFit-username_of_21 : CountsFit (set good 0 21) → ⊥
CountsFit-username_of_21 fit = omega (arith, fit.0)

CountsFit-role_of_6 : CountsFit (set good 21 6) → ⊥
CountsFit-role_of_6 fit = omega (arith, fit.1)

AreWellFormed-good : AreWellFormed good
unfolding utf8
AreWellFormed-good = ((codes "user", (user-text, refl)), (codes "admin", (admin-text, refl)))

-- a byte that is not counted is not read
AreWellFormed-in_the_padding : AreWellFormed (set good 5 0xFF)
unfolding utf8
AreWellFormed-in_the_padding = ((codes "user", (user-text, refl)), (codes "admin", (admin-text, refl)))

-- FF is in the UTF-8 of no text
ill_formed : (rest : List ℕ) → IsWellFormed (0xFF ∷ rest) → ⊥
unfolding utf8
ill_formed rest ([], (is, e)) = cc
ill_formed rest (c ∷ t, (is, e)) = grind arith

AreWellFormed-username : AreWellFormed (set good 1 0xFF) → ⊥
AreWellFormed-username are = ill_formed (codes "ser") are.0

AreWellFormed-role : AreWellFormed (set good 22 0xFF) → ⊥
AreWellFormed-role are = ill_formed (codes "dmin") are.1

all_zero : (n : ℕ) → All {X = ℕ} (λ b. b ≡ 0) (replicate n 0)
all_zero n = All-replicate (λ b. b ≡ 0) n 0 refl

ArePadded-good : ArePadded good
ArePadded-good = (all_zero 16, all_zero 0)

-- a zero byte that is counted is the character U+0000
ArePadded-counted_byte : ArePadded (1 ∷ 7 ∷ replicate 25 0)
ArePadded-counted_byte = (all_zero 19, all_zero 5)

ArePadded-behind_the_username : ArePadded (set good 5 1) → ⊥
ArePadded-behind_the_username are = omega (arith, are.0 0 0 (lit< tt))

ArePadded-last_byte_of_the_username : ArePadded (set good 20 1) → ⊥
ArePadded-last_byte_of_the_username are = omega (arith, are.0 15 0 (lit< tt))

ArePadded-behind_the_role : ArePadded (set (set good 21 4) 26 1) → ⊥
ArePadded-behind_the_role are = omega (arith, are.1 0 0 (lit< tt))

-- The first fault

IsFirstFault-length_of_26 : IsFirstFault (4 ∷ codes "user" ++ replicate 16 0 ++ 5 ∷ codes "admi") Length
IsFirstFault-length_of_26 is = omega (arith, is)

IsFirstFault-length_of_28 : IsFirstFault (good ++ 0 ∷ []) Length
IsFirstFault-length_of_28 is = omega (arith, is)

IsFirstFault-count_of_the_username : IsFirstFault (set good 0 21) Count
IsFirstFault-count_of_the_username = (refl, CountsFit-username_of_21)

IsFirstFault-count_of_the_role : IsFirstFault (set good 21 6) Count
IsFirstFault-count_of_the_role = (refl, CountsFit-role_of_6)

IsFirstFault-utf8_of_the_username : IsFirstFault (set good 1 0xFF) Utf8
IsFirstFault-utf8_of_the_username = (refl, (lit≤ tt, lit≤ tt), AreWellFormed-username)

IsFirstFault-utf8_of_the_role : IsFirstFault (set good 22 0xFF) Utf8
IsFirstFault-utf8_of_the_role = (refl, (lit≤ tt, lit≤ tt), AreWellFormed-role)

IsFirstFault-padding_of_the_username : IsFirstFault (set good 5 1) Padding
unfolding utf8
IsFirstFault-padding_of_the_username =
    (refl, (lit≤ tt, lit≤ tt), ((codes "user", (user-text, refl)), (codes "admin", (admin-text, refl))), ArePadded-behind_the_username)

IsFirstFault-length_of_the_good : IsFirstFault good Length → ⊥
IsFirstFault-length_of_the_good is = is refl

IsFirstFault-count_of_the_good : IsFirstFault good Count → ⊥
IsFirstFault-count_of_the_good is = is.1 CountsFit-good

IsFirstFault-utf8_of_the_good : IsFirstFault good Utf8 → ⊥
IsFirstFault-utf8_of_the_good is = is.2 AreWellFormed-good

IsFirstFault-padding_of_the_good : IsFirstFault good Padding → ⊥
IsFirstFault-padding_of_the_good is = is.3 ArePadded-good

-- where two tests fail, the fault is that of the first
IsFirstFault-length_before_count : IsFirstFault (21 ∷ []) Count → ⊥
IsFirstFault-length_before_count is = omega (arith, is.0)

IsFirstFault-length_before_utf8 : IsFirstFault (1 ∷ 0xFF ∷ []) Utf8 → ⊥
IsFirstFault-length_before_utf8 is = omega (arith, is.0)

IsFirstFault-length_before_padding : IsFirstFault (0 ∷ 1 ∷ []) Padding → ⊥
IsFirstFault-length_before_padding is = omega (arith, is.0)

IsFirstFault-count_before_utf8 : IsFirstFault (set (set good 21 6) 1 0xFF) Utf8 → ⊥
IsFirstFault-count_before_utf8 is = omega (arith, is.1.1)

-- the role is counted a byte short, so that its last byte is in the padding
IsFirstFault-count_before_padding : IsFirstFault (set (set (set good 21 4) 26 1) 0 21) Padding → ⊥
IsFirstFault-count_before_padding is = omega (arith, is.1.0)

IsFirstFault-utf8_before_padding : IsFirstFault (set (set good 22 0xFF) 5 1) Padding → ⊥
IsFirstFault-utf8_before_padding is = ill_formed (codes "dmin") is.2.1
