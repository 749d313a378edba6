-- Laws of a walk over the characters of a text, by `next`.
use Rattle.std.proofs.Common.{◌≡◌, ℕ, ◌<◌, ◌+◌, List, [], ◌∷◌, ◌++◌, refl, ap, ◌∙◌, arith, IsUtf8, chars, length, length-append}
use Rattle.std.specs.Char.{encode_utf8, len_utf8}
use Rattle.std.proofs.lemmas.List.{nil_from_length}
use Rattle.std.proofs.lemmas.Str.{chars_past_char, IsUtf8-past_char, chars-nil, length-encode, len_utf8_bounds}
use Rattle.arraystring_base.specs.Text.{width}
use Rattle.arraystring_base.proofs.TextLaws.{width-is}

-- the bytes of a text begin with those of a character: so it is this character and the text of the other bytes, which are fewer
pub walked-on : (c : ℕ) (rest : List ℕ) → (encode_utf8 c ++ rest ≡ encode_utf8 c ++ rest)
    × ((bs : List ℕ) → IsUtf8 bs → bs ≡ encode_utf8 c ++ rest
    → (chars bs ≡ c ∷ chars rest) × IsUtf8 rest × (width c ≡ len_utf8 c) × (length bs ≡ len_utf8 c + length rest) × (length rest < length bs))
walked-on c rest = (
  refl,
  λ bs u is.
      let sizes : length bs ≡ len_utf8 c + length rest = omega (arith, ap length is, length-append (encode_utf8 c) rest, length-encode c) in
      (chars_past_char bs rest c u is, IsUtf8-past_char bs rest c u is, width-is c, sizes, omega (arith, sizes, (len_utf8_bounds c).0)),
)

-- no byte is no character
pub walked-out : (bs : List ℕ) → length bs ≡ 0 → chars bs ≡ []
walked-out bs none = ap chars (nil_from_length bs none) ∙ chars-nil
