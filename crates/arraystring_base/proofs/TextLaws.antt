-- Laws of texts and their bytes.
use Rattle.std.proofs.Common.{◌≡◌, ℕ, ◌+◌, ◌<◌, ◌≤◌, List, [], ◌∷◌, ◌++◌, length, drop, refl, sym, ap, ◌∙◌, arith, IsUtf8, IsCharBoundary, chars, nat_eq, encode_utf8_all, true, length-append, append_assoc}
use Rattle.std.proofs.lemmas.Bool.{and_parts}
use Rattle.std.proofs.lemmas.Bool.Decides.{same_from_decides, nat_tests}
use Rattle.std.proofs.lemmas.Str.{encodes-chars, encodes_same, length-encode, len_utf8_bounds, IsCharBoundary-past_char, scalars-chars}
use Rattle.std.proofs.Math.Utf8.{scalars, scalar, scalar_cases}
use Rattle.std.specs.Char.{len_utf8, encode_utf8}
use Rattle.std.specs.Cmp.Lexicographic.{pointwise, bytes_decides}
use Rattle.arraystring_base.specs.Text.{IsScalarValue, IsText, IsWellFormed, width, utf8, size, bytes}

-- UTF-8 as std has it
pub width-is : (c : ℕ) → width c ≡ len_utf8 c
unfolding width
width-is c = refl

pub utf8-is : (c : ℕ) → utf8 c ≡ encode_utf8 c
unfolding utf8 encode_utf8
utf8-is c = refl

pub bytes-is : (t : List ℕ) → bytes t ≡ encode_utf8_all t
bytes-is [] = refl
bytes-is (c ∷ cs) = cc (utf8-is c, bytes-is cs)

pub length-utf8 : (c : ℕ) → length (utf8 c) ≡ width c
length-utf8 c = rw (utf8-is, width-is) (length-encode c)

pub width-bounds : (c : ℕ) → (1 ≤ width c) × (width c ≤ 4)
width-bounds c = rw width-is (len_utf8_bounds c)

-- the bytes of a character, by its number, which decides the tests of `utf8`
pub utf8-one : (c : ℕ) → c < 0x80 → utf8 c ≡ c ∷ []
unfolding utf8
utf8-one c lt = grind (arith, nat_tests)

-- two texts, one after the other
pub size-append : (a b : List ℕ) → size (a ++ b) ≡ size a + size b
size-append [] b = omega arith
size-append (c ∷ a) b = omega (arith, size-append a b)

pub bytes-append : (a b : List ℕ) → bytes (a ++ b) ≡ bytes a ++ bytes b
bytes-append [] b = refl
bytes-append (c ∷ a) b = rw (bytes-append a b, append_assoc)

-- a text takes as many bytes as it has
pub size-is : (t : List ℕ) → size t ≡ length (bytes t)
size-is [] = refl
size-is (c ∷ cs) = omega (arith, length-utf8 c, size-is cs, length-append (utf8 c) (bytes cs))

-- only the empty text takes no byte
pub empty-size : {t : List ℕ} → size t ≡ 0 → t ≡ []
empty-size {t = []} e = refl
empty-size {t = c ∷ cs} e = absurd (omega (arith, width-bounds c))

-- bytes that are UTF-8 are those of their characters, and of no other text
pub bytes-chars : {bs : List ℕ} → IsUtf8 bs → bytes (chars bs) ≡ bs
bytes-chars {bs} u = rw bytes-is (encodes-chars bs u)

pub bytes_same : {a b : List ℕ} → bytes a ≡ bytes b → a ≡ b
bytes_same {a} {b} e = encodes_same a b (sym (bytes-is a) ∙ e ∙ bytes-is b)

pub chars-bytes : {bs t : List ℕ} → IsUtf8 bs → bs ≡ bytes t → chars bs ≡ t
chars-bytes u e = bytes_same (bytes-chars u ∙ e)

pub size-borrowed : {bs : List ℕ} → IsUtf8 bs → size (chars bs) ≡ length bs
size-borrowed {bs} u = rw (size-is, bytes-chars u)

-- where a character ends, the next begins
pub boundary-past_char : (bs rest : List ℕ) (i c : ℕ) → i ≤ length bs → IsUtf8 (drop i bs)
    → drop i bs ≡ utf8 c ++ rest → IsCharBoundary bs (i + width c)
boundary-past_char bs rest i c le u e =
    rw width-is (IsCharBoundary-past_char bs rest i c le u (rw utf8-is at e))

-- texts are compared by their bytes
pub pointwise-bytes : (a b : List ℕ) → pointwise nat_eq (bytes a) (bytes b) ≡ pointwise nat_eq a b
pointwise-bytes a b =
    let by_text = bytes_decides a b in
    let by_bytes = bytes_decides (bytes a) (bytes b) in
    same_from_decides {P = a ≡ b} _ _ (λ e. bytes_same (by_bytes.0 e), λ e. by_bytes.1 (ap bytes e)) by_text

-- std's tests of characters, which ask for the same two ranges
pub scalar-is : (c : ℕ) → IsScalarValue c → scalar c ≡ true
scalar-is c is = grind (arith, nat_tests)

scalars-is : (t : List ℕ) → IsText t → scalars t ≡ true
scalars-is [] is = refl
scalars-is (c ∷ cs) is = rw (scalar-is c is.0, scalars-is cs is.1) refl

text-is : (t : List ℕ) → scalars t ≡ true → IsText t
text-is [] is = tt
text-is (c ∷ cs) is = let both = and_parts (scalar c) (scalars cs) is in (scalar_cases c both.0, text-is cs both.1)

-- the characters of UTF-8 are scalar values, and the bytes of a text are UTF-8
pub text-chars : {bs : List ℕ} → IsUtf8 bs → IsText (chars bs)
text-chars {bs} u = text-is (chars bs) (scalars-chars bs u)

pub bytes-utf8 : (t : List ℕ) → IsText t → IsUtf8 (bytes t)
bytes-utf8 t is = (t, (scalars-is t is, sym (bytes-is t)))

-- well-formed bytes are those that std takes
pub well_formed-utf8 : {bs : List ℕ} → IsWellFormed bs → IsUtf8 bs
well_formed-utf8 well = rw (← well.1.1) (bytes-utf8 well.0 well.1.0)

pub utf8-well_formed : {bs : List ℕ} → IsUtf8 bs → IsWellFormed bs
utf8-well_formed {bs} u = (chars bs, (text-chars u, bytes-chars u))

pub ruleset size_is = (size-is)

pub ruleset borrowed = (text-chars, bytes-chars)
