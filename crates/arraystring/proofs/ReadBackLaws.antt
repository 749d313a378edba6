-- Laws of a number that is read back from the text that `write!` makes of it.
use Rattle.std.proofs.Common.{◌≡◌, ◌≢◌, ℕ, suc, ◌+◌, ◌<◌, ◌^◌, List, [], ◌∷◌, get_or, refl, ap, sym, subst, ◌∙◌, Result, Ok, IsUtf8, chars, arith}
use Rattle.std.specs.Fmt.{decimal, signed_decimal}
use Rattle.std.specs.Char.{digit_value}
use Rattle.std.specs.Result.{OkIff}
use Rattle.std.specs.Str.{IsAscii}
use Rattle.std.specs.Str.Parse.{without_leading_plus, digits_value, AllDigits, IsNumeral, ParsesSigned}
use Rattle.std.proofs.lemmas.Fmt.{IsAscii-decimal_wide, decimal_is_IsNumeral_wide}
use Rattle.std.proofs.lemmas.Result.{Ok-from_Ok_iff}
use Rattle.std.proofs.lemmas.Str.Ascii.{IsAscii-cons}
use Rattle.std.proofs.lemmas.Str.Parse.{without_leading_plus_none, numerals_by_value, tells_digits, parse_signed_digits, parse_signed_minus}
use Rattle.std.specs.Int.RustNames.{FitsSigned}
use Rattle.std.specs.Int.Signed.{mag}
use Rattle.std.proofs.Common.{ℤ, pos, negsuc, neg_ℤ}
use mir.Syntax.{Width, w8, w16, w32, w64, w128}
use Rattle.arraystring_base.specs.Text.{bytes}
use Rattle.arraystring_base.proofs.TextLaws.{bytes-chars}
use Rattle.arraystring.proofs.DigitLaws.{bytes-ascii}

-- a numeral does not begin with a `+`
no_plus : (bs : List ℕ) → IsNumeral 10 bs → get_or bs 0 0 ≢ 43
no_plus [] is e = absurd (omega (arith, is.0))
no_plus (c ∷ bs) is e = absurd (omega (arith, subst (λ d. digit_value d < 10) e is.1.0))

read : {E : Type 0} (m n : ℕ) (bs : List ℕ) (r : Result ℕ E)
    → OkIff r (IsNumeral 10 (without_leading_plus bs) × (digits_value 10 (without_leading_plus bs) < m)) (digits_value 10 (without_leading_plus bs))
    → n < m → n < 10 ^ 64 → bs ≡ decimal n → r ≡ Ok n
read m n bs r reads below small is =
    let numeral = decimal_is_IsNumeral_wide n small in
    let same : without_leading_plus bs ≡ decimal n = ap without_leading_plus is ∙ without_leading_plus_none (decimal n) (no_plus (decimal n) numeral.0) in
    let value : digits_value 10 (without_leading_plus bs) ≡ n = ap (digits_value 10) same ∙ numeral.1 in
    Ok-from_Ok_iff r _ _ reads (subst (IsNumeral 10) (sym same) numeral.0, omega (arith, value, below)) ∙ ap Ok value

-- `parse` read a text of digits: where it is the text of `n`, and `n` is below the bound of the type, it returned `n`
pub number-read : {E : Type 0} (m : ℕ) (bs : List ℕ) (r : Result ℕ E)
    → OkIff r (IsNumeral 10 (without_leading_plus bs) × (digits_value 10 (without_leading_plus bs) < m)) (digits_value 10 (without_leading_plus bs))
    → OkIff r (IsNumeral 10 (without_leading_plus bs) × (digits_value 10 (without_leading_plus bs) < m)) (digits_value 10 (without_leading_plus bs))
    × ((n : ℕ) → (decimal n ≡ decimal n) × (n < m → n < 2 ^ 128 → IsUtf8 bs → chars bs ≡ decimal n → r ≡ Ok n))
number-read m bs r reads = (reads, λ n. (refl, λ below small u e. go n below (wide n small) u e))
  where
    wide : (n : ℕ) → n < 2 ^ 128 → n < 10 ^ 64
    wide n small = omega (arith, small)

    go : (n : ℕ) → n < m → n < 10 ^ 64 → IsUtf8 bs → chars bs ≡ decimal n → r ≡ Ok n
    go n below small u e =
        read m n bs r reads below small (sym (bytes-chars u) ∙ ap bytes e ∙ (bytes-ascii (decimal n) (IsAscii-decimal_wide n small)).1)

-- a signed number of any width is below the bound of std's laws of long numerals
within : (w : Width) (z : ℤ) → FitsSigned w z → mag z + 1 < 10 ^ 64
within w8 z fits = omega (arith, fits.sfits)
within w16 z fits = omega (arith, fits.sfits)
within w32 z fits = omega (arith, fits.sfits)
within w64 z fits = omega (arith, fits.sfits)
within w128 z fits = omega (arith, fits.sfits)

signed_ascii : (z : ℤ) → mag z + 1 < 10 ^ 64 → IsAscii (signed_decimal z)
signed_ascii (pos n) small = IsAscii-decimal_wide n (omega (arith, small))
signed_ascii (negsuc n) small =
    IsAscii-cons 45 (decimal (suc n)) (omega arith) (IsAscii-decimal_wide (suc n) (omega (arith, small)))

read_signed : {E : Type 0} (w : Width) (z : ℤ) (r : Result ℤ E) → ParsesSigned w 10 (signed_decimal z) r
    → FitsSigned w z → mag z + 1 < 10 ^ 64 → r ≡ Ok z
read_signed w (pos n) r reads fits small =
    let ((some, digits), value) = decimal_is_IsNumeral_wide n (omega (arith, small)) in
    let plain = parse_signed_digits (numerals_by_value (AllDigits 10) tells_digits) w (decimal n) r reads digits in
    Ok-from_Ok_iff r _ _ plain (some, omega (arith, value, fits.sfits)) ∙ ap (λ m. Ok (pos m)) value
read_signed w (negsuc n) r reads fits small =
    let ((some, digits), value) = decimal_is_IsNumeral_wide (suc n) (omega (arith, small)) in
    let minus = parse_signed_minus (numerals_by_value (AllDigits 10) tells_digits) w (signed_decimal (negsuc n)) r reads refl in
    Ok-from_Ok_iff r _ _ minus (digits, some, omega (arith, value, fits.sfits)) ∙ ap (λ m. Ok (neg_ℤ (pos m))) value

-- the same of a signed type, of any width
pub signed-read : {E : Type 0} (w : Width) (bs : List ℕ) (r : Result ℤ E) → ParsesSigned w 10 bs r
    → ParsesSigned w 10 bs r
    × ((z : ℤ) → FitsSigned w z → FitsSigned w z × (IsUtf8 bs → chars bs ≡ signed_decimal z → r ≡ Ok z))
signed-read w bs r reads = (reads, λ z fits. (fits, λ u e. go z fits (within w z fits) u e))
  where
    go : (z : ℤ) → FitsSigned w z → mag z + 1 < 10 ^ 64 → IsUtf8 bs → chars bs ≡ signed_decimal z → r ≡ Ok z
    go z fits small u e =
        let own = (bytes-ascii (signed_decimal z) (signed_ascii z small)).1 in
        let is : bs ≡ signed_decimal z = sym (bytes-chars u) ∙ ap bytes e ∙ own in
        read_signed w z r (subst (λ l. ParsesSigned w 10 l r) is reads) fits small
