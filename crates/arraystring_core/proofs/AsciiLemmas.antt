-- ASCII letters in the other case, in characters and in bytes.
use Rattle.std.proofs.Common.{◌≡◌, ℕ, ◌+◌, ◌-◌, ◌<◌, ◌≤◌, List, [], ◌∷◌, ◌++◌, map, length, take, drop, chars, refl, sym, ap, ◌∙◌, arith, true, IsUtf8, length-take-le, length-drop}
use Rattle.std.proofs.lemmas.Bool.Decides.{nat_tests}
use Rattle.std.proofs.lemmas.List.{append-nil, map-append, length-map}
use Rattle.std.proofs.lemmas.Str.Ascii.{uppercase_ascii, lowercase_ascii, uppercase_is, lowercase_is}
use Rattle.arraystring_base.specs.Text.{IsScalarValue, IsText, size, utf8, bytes, front, back, boundary}
use Rattle.arraystring_base.proofs.TextLaws.{bytes-utf8, chars-bytes, text-chars}
use Rattle.arraystring_base.proofs.BoundaryLaws.{boundary-is, boundary-end, front-start, front-end, back-start, back-end}
use Rattle.arraystring_core.specs.Stored.{StringView}
use Rattle.arraystring_core.specs.Layout.{string_in, MeetsStringInvariant}
use Rattle.arraystring_core.specs.GhostProofs.{stored-utf8, stored-bytes}
use Rattle.arraystring_core.proofs.StoredLaws.{opened-within}
use Rattle.arraystring_core.specs.Edits.{part}
use Rattle.arraystring_core.specs.Ascii.{to_case}
use Rattle.arraystring_core.specs.declared.array_string.ascii.Case.{Case}
use Rattle.arraystring_core.specs.declared.array_string.ascii.Case.TheVariants.{Upper, Lower}
use Rattle.arraystring_core.proofs.PartLemmas.{part_stored}
use Rattle.arraystring_core.proofs.SpanLemmas.{StoredAt, spliced, filled}

-- a change of ASCII characters alone
pub record IsAsciiChange (f : ℕ → ℕ) : Type 0 where
  pub low : (c : ℕ) → c < 128 → f c < 128
  pub high : (c : ℕ) → 128 ≤ c → f c ≡ c

pub case-change : (case : Case) → IsAsciiChange (to_case case)
case-change Upper = record { low = uppercase_ascii; high = λ c ge. (uppercase_is c).2 (omega arith) }
case-change Lower = record { low = lowercase_ascii; high = λ c ge. (lowercase_is c).2 (omega arith) }

module _ (f : ℕ → ℕ) (is : IsAsciiChange f) where
  -- a character below 128 is one byte and stays one, and any other stays as it is, as do its bytes, which are all 128 and more
  utf8-change : (c : ℕ) → utf8 (f c) ≡ map f (utf8 c)
  unfolding utf8
  utf8-change c = grind (arith, nat_tests, is.low, is.high)

  bytes-change : (t : List ℕ) → bytes (map f t) ≡ map f (bytes t)
  bytes-change [] = refl
  bytes-change (c ∷ cs) = rw (utf8-change c, bytes-change cs, map-append f (utf8 c) (bytes cs)) refl

  -- a number below 128 stays below it, and is a scalar value; any other stays as it is
  scalar-change : (c : ℕ) → IsScalarValue c → IsScalarValue (f c)
  scalar-change c s = grind (arith, is.low c, is.high c)

  text-change : (t : List ℕ) → IsText t → IsText (map f t)
  text-change [] s = s
  text-change (c ∷ cs) s = (scalar-change c s.0, text-change cs s.1)

  -- the changed bytes of a text are its changed characters
  pub changed-utf8 : (t : List ℕ) → IsText t → IsUtf8 (map f (bytes t))
  changed-utf8 t s = rw (← bytes-change t) (bytes-utf8 (map f t) (text-change t s))

  pub changed-chars : (t : List ℕ) → IsText t → chars (map f (bytes t)) ≡ map f t
  changed-chars t s = chars-bytes (changed-utf8 t s) (sym (bytes-change t))

-- the bytes from start to end of the text that stands from p on are changed
module _ {f : ℕ → ℕ} (is : IsAsciiChange f) {array_size : ℕ} {array : List ℕ} {p n : ℕ} (in_array : MeetsStringInvariant array_size array p n) {v : StringView}
    (e : string_in array p n ≡ v) {start end : ℕ} (order : start ≤ end) (b : boundary v.text start ≡ true) (d : boundary v.text end ≡ true)
    {after : List ℕ}
    (written : after ≡ take (p + start) array ++ (map f (take (p + end - (p + start)) (drop (p + start) array)) ++ drop (p + end) array)) where
  pub changed : StoredAt array_size after p n (front v.text start ++ (map f (part v.text start end) ++ back v.text end))
  changed =
      let there = part_stored in_array e order b d in
      let run = take (end - start) (drop (p + start) array) in
      let of : IsText (part v.text start end) = rw there.shown at (text-chars (stored-utf8 there.in_array)) in
      let same : run ≡ bytes (part v.text start end) = sym (stored-bytes there.in_array) ∙ ap bytes there.shown in
      let u : IsUtf8 (map f run) = rw same (changed-utf8 f is _ of) in
      let wide : end - start ≡ length (map f run) =
      sym (length-map run f ∙ length-take-le (end - start) _ (omega (arith, length-drop (p + start) array, there.in_array))) in
      let less : p + end - (p + start) ≡ end - start = omega arith in
      let past : p + end ≡ p + start + length (map f run) = omega arith in
      let tail : p + (start + (end - start)) ≡ p + end = omega arith in
      let whole : start + (end - start + (n - end)) ≡ n = omega (arith, opened-within in_array e end d) in
      rw (whole, same, changed-chars f is _ of) at
      (filled in_array e order b d (omega (arith, spliced in_array e d u)) u refl refl wide array in_array.length (omega arith) refl
      (rw tail refl) (rw (less, past) at written))

-- all of a text is changed
pub whole-changed : (f : ℕ → ℕ) (t : List ℕ) → front t 0 ++ (map f (part t 0 (size t)) ++ back t (size t)) ≡ map f t
whole-changed f t = simp (front-start t, front-end t, back-start t, back-end t, append-nil (map f t))

pub boundary-start : (t : List ℕ) → boundary t 0 ≡ true
boundary-start t = boundary-is [] t 0 refl

pub ruleset whole = (whole-changed, boundary-start, boundary-end)
