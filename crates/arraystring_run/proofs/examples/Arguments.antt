-- Examples of the word that a program is given. `codes "small"` is the list of the bytes of `"small"`.
use Rattle.std.proofs.Common.{◌≡◌, ℕ, ◌≤◌, ◌+◌, List, [], ◌∷◌, ◌++◌, length, take, replicate, Some, None, Result, Ok, Err, inl, refl, sym, ap, ◌∙◌, ap₂, subst, zero, suc, true, false, IsSome, arith, codes, lit≤, lit<, length-append}
use Rattle.std.specs.declared.env.FillError.{FillError}
use Rattle.std.specs.declared.env.FillError.TheVariants.{NotPresent}
use Rattle.arraystring.specs.Stored.{StringView, view_with_empty_spare}
use Rattle.arraystring.specs.Text.{IsScalarValue, IsText, width, utf8, size, bytes}
use Rattle.arraystring_run.specs.Arguments.{IsOnlyWord}

-- an argument of n bytes, and none
abbrev has : ℕ → Result ℕ FillError
has n = Ok n

abbrev none : Result ℕ FillError
none = Err NotPresent

IsOnlyWord-alone : IsOnlyWord (has 5) (codes "small..") none (Some (view_with_empty_spare (codes "small")))
unfolding utf8
IsOnlyWord-alone = record { text = (5, refl, refl); alone = λ some. refl; whole = λ t n is fits e long same alone. refl }

IsOnlyWord-none_where_there_is_a_second : IsOnlyWord (has 5) (codes "small") (has 1) None
IsOnlyWord-none_where_there_is_a_second = record {
  text = tt;
  alone = λ some. absurd (cc);
  whole = λ t n is fits e long same alone. absurd (cc);
}

IsOnlyWord-none_where_there_is_no_first : IsOnlyWord none [] none None
IsOnlyWord-none_where_there_is_no_first = record {
  text = tt;
  alone = λ some. absurd (cc);
  whole = λ t n is fits e long same alone. absurd (cc);
}

IsOnlyWord-another_text : IsOnlyWord (has 5) (codes "cache") none (Some (view_with_empty_spare (codes "small"))) → ⊥
unfolding utf8
IsOnlyWord-another_text is = grind arith

IsOnlyWord-of_no_first : IsOnlyWord none (codes "small") none (Some (view_with_empty_spare (codes "small"))) → ⊥
IsOnlyWord-of_no_first is = let e : none ≡ Ok is.text.0 = is.text.1 in cc

IsOnlyWord-there_is_a_second : IsOnlyWord (has 5) (codes "small") (has 1) (Some (view_with_empty_spare (codes "small"))) → ⊥
IsOnlyWord-there_is_a_second is = cc (is.alone refl)

IsOnlyWord-not_seen : IsOnlyWord (has 2) (codes "ab") none None → ⊥
unfolding width utf8
IsOnlyWord-not_seen is =
    let some : false ≡ true = is.whole (codes "ab") 2 (inl (lit< tt), (inl (lit< tt), tt)) (lit≤ tt) refl (lit≤ tt) refl refl in cc

-- the greatest capacity is 255
letters-text : (n : ℕ) → IsText (replicate n 0x61)
letters-text zero = tt
letters-text (suc n) = (inl (lit< tt), letters-text n)

IsOnlyWord-255_bytes_not_seen : IsOnlyWord (has 255) (replicate 255 0x61) none None → ⊥
unfolding width utf8
IsOnlyWord-255_bytes_not_seen is =
    let some : false ≡ true = is.whole (replicate 255 0x61) 255 (letters-text 255) (lit≤ tt) refl (lit≤ tt) refl refl in cc

size-length : (t : List ℕ) → size t ≡ length (bytes t)
unfolding width utf8
size-length [] = refl
size-length (c ∷ t) =
    let one : width c ≡ length (utf8 c) = grind arith in
    ap₂ (λ m n. m + n) one (size-length t) ∙ sym (length-append (utf8 c) (bytes t))

IsOnlyWord-256_bytes_need_not_be : IsOnlyWord (has 256) (replicate 256 0x61) none None
IsOnlyWord-256_bytes_need_not_be = record { text = tt; alone = λ some. absurd (cc); whole = no_text_has_256_bytes }
  where
    no_text_has_256_bytes : (t : List ℕ) (n : ℕ) → IsText t → size t ≤ 255 → has 256 ≡ has n → n ≤ 256 → bytes t ≡ take n (replicate 256 0x61)
        → none ≡ none → IsSome {T = StringView} None
    no_text_has_256_bytes t n is fits e long same alone =
        let m : n ≡ 256 = cc in
        let all : length (bytes t) ≡ 256 = ap length (subst (λ k. bytes t ≡ take k (replicate 256 0x61)) m same) in
        absurd (omega (arith, size-length t))

-- ED A0 80 would be the UTF-8 of the surrogate D800
IsOnlyWord-no_utf8_is_no_word : IsOnlyWord (has 3) (0xED ∷ 0xA0 ∷ 0x80 ∷ []) none None
unfolding utf8
IsOnlyWord-no_utf8_is_no_word = record { text = tt; alone = λ some. absurd (cc); whole = no_text_has_these_bytes }
  where
    no_character_begins_them : (c : ℕ) (t : List ℕ) → IsScalarValue c → utf8 c ++ bytes t ≡ 0xED ∷ 0xA0 ∷ 0x80 ∷ [] → ⊥
    no_character_begins_them c t is e = grind arith

    no_text_has_these_bytes : (t : List ℕ) (n : ℕ) → IsText t → size t ≤ 255 → has 3 ≡ has n → n ≤ 3 → bytes t ≡ take n (0xED ∷ 0xA0 ∷ 0x80 ∷ [])
        → none ≡ none → IsSome {T = StringView} None
    no_text_has_these_bytes [] n is fits e long same alone = let m : n ≡ 3 = cc in absurd (grind arith)
    no_text_has_these_bytes (c ∷ t) n is fits e long same alone =
        let m : n ≡ 3 = cc in
        absurd (no_character_begins_them c t is.0 (subst (λ k. bytes (c ∷ t) ≡ take k (0xED ∷ 0xA0 ∷ 0x80 ∷ [])) m same))
