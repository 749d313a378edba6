-- The first and the last character of a text, and the bytes of UTF-8 at its ends.
use Rattle.std.proofs.Common.{◌≡◌, ℕ, ◌+◌, ◌<◌, List, [], ◌∷◌, ◌++◌, refl, sym, ap, ◌∙◌, arith, length, length-append, get_or, true}
use Rattle.std.proofs.lemmas.Bool.Decides.{nat_tests}
use Rattle.arraystring_base.specs.Text.{width, utf8, bytes, size, front, boundary}
use Rattle.arraystring_base.proofs.TextLaws.{utf8-one, length-utf8, size-append}
use Rattle.arraystring_base.proofs.BoundaryLaws.{boundary-is, front-is}

-- a text that is not empty ends with a character
pub last-split : (c : ℕ) (cs : List ℕ) → (xs : List ℕ) × (x : ℕ) × (c ∷ cs ≡ xs ++ x ∷ [])
last-split c [] = ([], c, refl)
last-split c (d ∷ ds) = let rest = last-split d ds in (c ∷ rest.0, rest.1, ap (λ l. c ∷ l) rest.2)

pub pushed-length : (t xs : List ℕ) (x : ℕ) → t ≡ xs ++ x ∷ [] → length t ≡ length xs + 1
pushed-length t xs x is = ap length is ∙ length-append xs (x ∷ [])

-- a character below 128 is one byte, and one whose first byte is below 128 is below it: any other begins with C0 or more
pub low-width : (c : ℕ) → c < 0x80 → width c ≡ 1
low-width c lt = sym (length-utf8 c) ∙ ap length (utf8-one c lt)

pub first-ascii : (c : ℕ) (rest : List ℕ) → get_or (utf8 c ++ rest) 0 0 < 0x80 → c < 0x80
unfolding utf8
first-ascii c rest low = grind (arith, nat_tests)

-- a text whose first byte is below 128 begins with it
pub first-low : (t : List ℕ) {b : ℕ} {more : List ℕ} → bytes t ≡ b ∷ more → b < 0x80 → (rest : List ℕ) × (t ≡ b ∷ rest)
first-low [] e lt = absurd (cc)
first-low (c ∷ cs) e lt =
    let first = ap (λ l. get_or l 0 0) e in
    let one = utf8-one c (first-ascii c (bytes cs) (rw first lt)) in
    (cs, ap (λ x. x ∷ cs) (sym (ap (λ l. get_or (l ++ bytes cs) 0 0) one) ∙ first))

module _ {text seen : List ℕ} {ch start : ℕ} (same : seen ≡ text)
    (found : (before : List ℕ) × (seen ≡ before ++ ch ∷ []) × (size before ≡ start)) where
  pub last-parts : text ≡ found.0 ++ ch ∷ []
  last-parts = sym same ∙ found.1

  pub last-size : size text ≡ start + width ch
  last-size = omega (arith, found.2, ap size last-parts, size-append found.0 (ch ∷ []))

  pub last-boundary : boundary text start ≡ true
  last-boundary = ap (λ l. boundary l start) last-parts ∙ boundary-is found.0 (ch ∷ []) start found.2

  pub last-front : {left : List ℕ} → left ≡ front text start → left ≡ found.0
  last-front kept = kept ∙ ap (λ l. front l start) last-parts ∙ front-is found.0 (ch ∷ []) start found.2
