-- Laws of texts of ASCII, as the digits of a number are.
use Rattle.std.proofs.Common.{◌≡◌, ℕ, suc, ◌≤◌, ◌<◌, ◌+◌, ◌^◌, List, ◌∷◌, length, arith, refl, ap, sym, ◌∙◌, chars, pos, negsuc}
use Rattle.std.specs.Fmt.{decimal, signed_decimal}
use Rattle.std.specs.Int.Signed.{mag}
use Rattle.std.specs.Str.{IsAscii}
use Rattle.std.proofs.Math.IntN.{ℤ}
use Rattle.std.proofs.lemmas.Fmt.{IsAscii-decimal_wide, IsAscii-signed, length-decimal-le_wide, length_signed_le}
use Rattle.std.proofs.lemmas.Str.{chars-IsAscii, IsUtf8-from_ascii}
use Rattle.std.proofs.lemmas.Str.Ascii.{IsAscii-cons}
use Rattle.arraystring_base.specs.Text.{size, bytes}
use Rattle.arraystring_base.proofs.TextLaws.{size-is, bytes-chars}

-- a text of ASCII is its own UTF-8, and takes as many bytes as it has characters
pub bytes-ascii : (t : List ℕ) → IsAscii t → (chars t ≡ t) × (bytes t ≡ t) × (size t ≡ length t)
bytes-ascii t is =
    let own = chars-IsAscii t is in
    let same : bytes t ≡ t = ap bytes (sym own) ∙ bytes-chars (IsUtf8-from_ascii t is) in
    (own, same, size-is t ∙ ap length same)

-- the digits of a number are their own UTF-8
pub bytes-decimal : (n : ℕ) → n < 2 ^ 128 → bytes (decimal n) ≡ decimal n
bytes-decimal n small = (bytes-ascii (decimal n) (IsAscii-decimal_wide n (omega arith))).1

-- a number of k digits takes k bytes at most
bound : (n k : ℕ) → 0 < k → n < 10 ^ k → n < 10 ^ 64 → size (decimal n) ≤ k
bound n k some low small =
    omega (arith, bytes-ascii (decimal n) (IsAscii-decimal_wide n small), length-decimal-le_wide k n some low small)

-- a number of 8, 16, 32, 64 or 128 bits has no more digits than these
pub size-decimal : (n : ℕ) → (size (decimal n) ≡ size (decimal n))
    × (n < 2 ^ 8 → size (decimal n) ≤ 3) × (n < 2 ^ 16 → size (decimal n) ≤ 5) × (n < 2 ^ 32 → size (decimal n) ≤ 10)
    × (n < 2 ^ 64 → size (decimal n) ≤ 20) × (n < 2 ^ 128 → size (decimal n) ≤ 39)
size-decimal n = (
  refl,
  λ low. bound n 3 (omega arith) (omega (arith, low)) (omega (arith, low)),
  λ low. bound n 5 (omega arith) (omega (arith, low)) (omega (arith, low)),
  λ low. bound n 10 (omega arith) (omega (arith, low)) (omega (arith, low)),
  λ low. bound n 20 (omega arith) (omega (arith, low)) (omega (arith, low)),
  λ low. bound n 39 (omega arith) (omega (arith, low)) (omega (arith, low)),
)

-- and a sign one more
signed_bound : (z : ℤ) (k : ℕ) → mag z + 1 < 10 ^ k → mag z < 2 ^ 63 → size (signed_decimal z) ≤ k + 1
signed_bound z k low small =
    omega (arith, bytes-ascii (signed_decimal z) (IsAscii-signed z small), length_signed_le k z low small)

-- std bounds a signed number of 64 bits at most, so this is about one of 128
wide_bound : (z : ℤ) → mag z < 2 ^ 127 → size (signed_decimal z) ≤ 40
wide_bound (pos n) low = omega (arith, bound n 39 (omega arith) (omega (arith, low)) (omega (arith, low)))
wide_bound (negsuc n) low =
    let digits = decimal (suc n) in
    let small : suc n < 10 ^ 39 = omega (arith, low) in
    let ascii = IsAscii-cons 45 digits (omega arith) (IsAscii-decimal_wide (suc n) (omega (arith, small))) in
    let own : size (45 ∷ digits) ≡ length (45 ∷ digits) = (bytes-ascii (45 ∷ digits) ascii).2 in
    omega (arith, own, length-decimal-le_wide 39 (suc n) (omega arith) small (omega (arith, small)))

-- nor has a signed one of 8, 16, 32, 64 or 128 bits, with its sign
pub size-signed : (z : ℤ) → (size (signed_decimal z) ≡ size (signed_decimal z))
    × (mag z < 2 ^ 7 → size (signed_decimal z) ≤ 4) × (mag z < 2 ^ 15 → size (signed_decimal z) ≤ 6)
    × (mag z < 2 ^ 31 → size (signed_decimal z) ≤ 11) × (mag z < 2 ^ 63 → size (signed_decimal z) ≤ 20)
    × (mag z < 2 ^ 127 → size (signed_decimal z) ≤ 40)
size-signed z = (
  refl,
  λ low. omega (arith, signed_bound z 3 (omega (arith, low)) (omega (arith, low))),
  λ low. omega (arith, signed_bound z 5 (omega (arith, low)) (omega (arith, low))),
  λ low. omega (arith, signed_bound z 10 (omega (arith, low)) (omega (arith, low))),
  λ low. omega (arith, signed_bound z 19 (omega (arith, low)) (omega (arith, low))),
  wide_bound z,
)
