-- A character that is written into an array: behind a text, or into a gap.
use Rattle.std.proofs.Common.{◌≡◌, ℕ, ◌+◌, ◌-◌, ◌≤◌, List, [], ◌∷◌, ◌++◌, take, take_at, drop, length, true, sym, ap, ◌∙◌, arith, IsUtf8, chars}
use Rattle.std.specs.Char.{IsScalar}
use Rattle.std.proofs.lemmas.Str.{IsUtf8-encode}
use Rattle.std.proofs.lemmas.List.{append-nil}
use Rattle.arraystring_base.specs.Text.{utf8, width, size, cap, front, back, boundary}
use Rattle.arraystring_base.proofs.TextLaws.{chars-bytes, utf8-is, length-utf8, size-borrowed}
use Rattle.arraystring_core.specs.Stored.{StringView}
use Rattle.arraystring_core.specs.Layout.{string_in, MeetsStringInvariant}
use Rattle.arraystring_core.proofs.SpanLemmas.{StoredAt, appended, appended_at_front, filled}

module _ (ch : ℕ) (scalar : IsScalar ch) where
  pub char-utf8 : IsUtf8 (utf8 ch)
  char-utf8 = rw (utf8-is ch) (IsUtf8-encode ch scalar)

  pub char-chars : chars (utf8 ch) ≡ ch ∷ []
  char-chars = chars-bytes char-utf8 (sym (append-nil (utf8 ch)))

  -- it was written in front, and len is the length of its UTF-8
  module _ (old : List ℕ) {new : List ℕ} {len : ℕ} (wide : len ≡ width ch) (is : new ≡ take 0 old ++ (utf8 ch ++ drop (0 + width ch) old)) where
    pub char-in_front : take len new ≡ utf8 ch
    char-in_front = rw wide (ap (take (width ch)) is ∙ take_at (utf8 ch) _ (width ch) (length-utf8 ch))

    pub char-spelled : {given : List ℕ} → given ≡ take len new → chars given ≡ ch ∷ []
    char-spelled same = ap chars (same ∙ char-in_front) ∙ char-chars

-- len is the length of its UTF-8
module _ {array_size : ℕ} {array : List ℕ} {p n : ℕ} (is : MeetsStringInvariant array_size array p n) {v : StringView} (e : string_in array p n ≡ v)
    (ch : ℕ) (scalar : IsScalar ch) {len : ℕ} (wide : len ≡ width ch) where
  pub char-appended : {after : List ℕ} → p + n + width ch ≤ cap array_size
      → after ≡ take (p + n) array ++ (utf8 ch ++ drop (p + n + width ch) array)
      → StoredAt array_size after p (n + len) (v.text ++ ch ∷ [])
  char-appended =
      rw (wide, ← length-utf8 ch, ← char-chars ch scalar) (appended is e (char-utf8 ch scalar))

  -- the text was moved to offset 0 before
  pub char-appended_at_front : {moved after : List ℕ} → n + width ch ≤ cap array_size
      → moved ≡ take 0 array ++ (take n (drop p array) ++ drop (0 + n) array)
      → after ≡ take n moved ++ (utf8 ch ++ drop (n + width ch) moved)
      → StoredAt array_size after 0 (n + len) (v.text ++ ch ∷ [])
  char-appended_at_front =
      rw (wide, ← length-utf8 ch, ← char-chars ch scalar) (appended_at_front is e (char-utf8 ch scalar))

  -- the gap is at the boundary m; offset and count are the span of the text
  module _ (m : ℕ) (b : boundary v.text m ≡ true) (room : size v.text + width ch ≤ cap array_size)
      {offset count : ℕ} (at : offset ≡ p) (many : count ≡ n) (gapped : List ℕ) (long : length gapped ≡ array_size) where
    fits : size v.text - (m - m) + size (chars (utf8 ch)) ≤ cap array_size
    fits = omega (arith, size-borrowed (char-utf8 ch scalar), length-utf8 ch)

    pub char-inserted : {after : List ℕ} → offset + (m + (len + (count - m))) ≤ cap array_size
        → take m (drop offset gapped) ≡ take m (drop offset array)
        → take (count - m) (drop (offset + (m + len)) gapped) ≡ take (count - m) (drop (offset + m) array)
        → after ≡ take (offset + m) gapped ++ (utf8 ch ++ drop (offset + m + width ch) gapped)
        → StoredAt array_size after p (m + (len + (count - m))) (front v.text m ++ (ch ∷ back v.text m))
    char-inserted {after} =
        rw (length-utf8 ch, char-chars ch scalar) at
        (filled is e (omega arith) b b fits (char-utf8 ch scalar) at many (wide ∙ sym (length-utf8 ch)) gapped {after = after} long)
