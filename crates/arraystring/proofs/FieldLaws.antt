-- Laws of a text that is split again and again where a character stands.
use Rattle.std.proofs.Common.{◌≡◌, ℕ, ◌<◌, ◌+◌, List, [], ◌∷◌, ◌++◌, refl, sym, ap, ◌∙◌, arith, IsUtf8, chars, length, take, drop, Some, eq-eqb, true, false, Bool, length-drop, length-append, length-take-le, ◌≤◌}
use Rattle.std.specs.Prelude.{◌==◌, if◌then◌else◌}
use Rattle.std.specs.Char.{encode_utf8, len_utf8}
use Rattle.std.specs.Str.{NonePass, NoCharPasses}
use Rattle.std.specs.Str.Pattern.{HasCharAt}
use Rattle.std.proofs.lemmas.Str.{encodes-chars, encodes_same, length-encode, len_utf8_bounds, IsUtf8-drop}
use Rattle.std.specs.Borrow.{Bor}
use Rattle.arraystring_base.proofs.FindLaws.{split_once-first}
use Rattle.arraystring_base.specs.Text.{size}
use Rattle.arraystring_base.proofs.TextLaws.{width-bounds, size-borrowed}
use Rattle.arraystring.specs.Fields.{fields, prepend_to_first_part}

-- a text without the character is one part
fields-one : (c : ℕ) (t : List ℕ) → NonePass (λ d. d == c) t → fields c t ≡ t ∷ []
fields-one c [] none = refl
fields-one c (d ∷ t) none = rw none.0 (ap (prepend_to_first_part d) (fields-one c t none.1))

-- what stands before the first one is a part, and the others are those of the text behind it
fields-parts : (c : ℕ) (front back : List ℕ) → NonePass (λ d. d == c) front → fields c (front ++ c ∷ back) ≡ front ∷ fields c back
fields-parts c [] back none = rw (eq-eqb c c refl) refl
fields-parts c (d ∷ front) back none = rw none.0 (ap (prepend_to_first_part d) (fields-parts c front back none.1))

-- `split_once` found the character from `i` to `j`
pub fields-found : (c j : ℕ) (bs : List ℕ) → (encode_utf8 c ++ drop j bs ≡ encode_utf8 c ++ drop j bs)
    × ((i : ℕ) → (take i bs ≡ take i bs) × (IsUtf8 bs → NoCharPasses (λ d. d == c) (take i bs) → HasCharAt c bs i j
    → (fields c (chars bs) ≡ chars (take i bs) ∷ fields c (chars (drop j bs)))
    × (chars bs ≡ chars (take i bs) ++ c ∷ chars (drop j bs)) × NonePass (λ d. d == c) (chars (take i bs)) × IsUtf8 (drop j bs) × (length (drop j bs) < length bs)))
fields-found c j bs = (refl, λ i. (refl, λ u none at. go i u none at))
  where
    go : (i : ℕ) → IsUtf8 bs → NoCharPasses (λ d. d == c) (take i bs) → HasCharAt c bs i j
        → (fields c (chars bs) ≡ chars (take i bs) ∷ fields c (chars (drop j bs)))
        × (chars bs ≡ chars (take i bs) ++ c ∷ chars (drop j bs)) × NonePass (λ d. d == c) (chars (take i bs)) × IsUtf8 (drop j bs) × (length (drop j bs) < length bs)
    go i u none at =
        let w = len_utf8_bounds c in
        let sizes : length (drop i bs) ≡ len_utf8 c + length (drop j bs) = ap length at.split ∙ length-append (encode_utf8 c) (drop j bs) ∙ ap (λ n. n + length (drop j bs)) (length-encode c) in
        let within : i ≤ length bs = omega (arith, sizes, w.0, length-drop i bs) in
        let front : Bor (List ℕ) = record { ref_ptr = (0, 0); now = take i bs } in
        let back : Bor (List ℕ) = record { ref_ptr = (0, 0); now = drop j bs } in
        let said = split_once-first u c (Some (front, back))
        (i, j, (none, at), refl, refl, omega (arith, at.ends), length-take-le i bs within, omega (arith, sizes, at.ends, length-drop i bs, length-drop j bs, within)) in
        (rw said.3 (fields-parts c (chars (take i bs)) (chars (drop j bs)) said.4), said.3, said.4, IsUtf8-drop bs j u (rw at.ends at.after), omega (arith, sizes, w.0, length-drop i bs))

-- there are no more parts than bytes, and one
fields-few : (c : ℕ) (t : List ℕ) → length (fields c t) ≤ size t + 1
fields-few c [] = omega arith
fields-few c (d ∷ t) = go (d == c) (fields c t) (fields-few c t)
  where
    go : (b : Bool) (rest : List (List ℕ)) → length rest ≤ size t + 1 → length (if b then [] ∷ rest else prepend_to_first_part d rest) ≤ size (d ∷ t) + 1
    go true rest few = omega (arith, width-bounds d)
    go false [] few = omega (arith, width-bounds d)
    go false (part ∷ rest) few = omega (arith, width-bounds d)

pub fields-count : (c : ℕ) (bs : List ℕ) → IsUtf8 bs → length (fields c (chars bs)) ≤ length bs + 1
fields-count c bs u = omega (arith, fields-few c (chars bs), size-borrowed u)

-- `split_once` found no character
pub fields-none : (c : ℕ) (bs : List ℕ) → IsUtf8 bs → NoCharPasses (λ d. d == c) bs → (fields c (chars bs) ≡ chars bs ∷ []) × NonePass (λ d. d == c) (chars bs)
fields-none c bs u none =
    let same : none.0 ≡ chars bs = encodes_same none.0 (chars bs) (none.1 ∙ sym (encodes-chars bs u)) in
    (rw (← same) (fields-one c none.0 none.2), rw (← same) none.2)
