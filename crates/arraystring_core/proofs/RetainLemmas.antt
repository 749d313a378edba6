-- A closure that is called with the characters of a text, and the bytes of those that are kept.
use Rattle.std.proofs.Common.{◌≡◌, ℕ, ◌+◌, ◌-◌, ◌<◌, ◌≤◌, Bool, true, false, List, [], ◌∷◌, ◌++◌, suc, length, take, drop, chars, refl, sym, ap, ◌∙◌, arith, IsUtf8, append_assoc, length-append, length-take-le, length-drop, take_at, take-take, get_or, inl}
use Rattle.std.proofs.Math.Seq.{take-add}
use Rattle.std.proofs.lemmas.List.{drop-drop, drop-take, drop_at, drop_more}
use Rattle.std.proofs.lemmas.Str.{IsUtf8-append, IsUtf8-past_char, chars_past_char, chars-append}
use Rattle.std.specs.List.Retain.{IsFiltered}
use Rattle.std.specs.Prelude.{encode_utf8}
use Rattle.std.specs.Char.{IsScalar}
use Rattle.arraystring_base.specs.Text.{width, utf8}
use Rattle.arraystring_base.proofs.TextLaws.{scalar-is, utf8-is, utf8-one, length-utf8}
use Rattle.arraystring_core.specs.Retain.{IsCallableInTurn}
use Rattle.arraystring_core.proofs.AppendLemmas.{char-utf8, char-chars}
use Rattle.arraystring_core.proofs.GapLemmas.{shifted}

-- the bytes from offset + read to offset + size
abbrev pub unread : List ℕ → ℕ → ℕ → ℕ → List ℕ
unread array offset read size = take (size - read) (drop (offset + read) array)

-- the first `read` of the `size` bytes from `offset` on were judged, and the first `kept` are those of the characters that f₀ kept
pub record IsPartRetained {F : Type 0} (can : F → ℕ → Type 0) (steps : F → ℕ → Bool → F → Type 0) (array_size : ℕ) (array₀ : List ℕ) (f₀ : F)
    (offset size : ℕ) (array : List ℕ) (f : F) (kept read : ℕ) : Type 0 where
  pub long : length array ≡ array_size
  pub kept_first : kept ≤ read
  pub read_within : read ≤ size
  pub rest_text : IsUtf8 (unread array offset read size)
  pub kept_text : IsUtf8 (take kept (drop offset array))
  pub callable : IsCallableInTurn can steps f (chars (unread array offset read size))
  pub filtered : (more : List ℕ) → IsFiltered steps f (chars (unread array offset read size)) more
      → IsFiltered steps f₀ (chars (take size (drop offset array₀))) (chars (take kept (drop offset array)) ++ more)

-- the bytes begin with the character c
pub record BeginsWith (bytes : List ℕ) (c : ℕ) : Type 0 where
  pub rest : List ℕ
  pub scalar : IsScalar c
  pub starts : bytes ≡ utf8 c ++ rest

-- if it is decoded
pub char-begins : (array : List ℕ) (offset read size : ℕ) {text : List ℕ} (c : ℕ) (rest : List ℕ)
    → text ≡ unread array offset read size → IsScalar c → text ≡ utf8 c ++ rest
    → BeginsWith (unread array offset read size) c
char-begins array offset read size c rest shown scalar starts =
    record { rest = rest; scalar = scalar; starts = sym shown ∙ starts }

-- if it is ASCII
pub ascii-begins : (array : List ℕ) (offset read size : ℕ) {first : ℕ} → first ≡ get_or array (offset + read) 0 → read < size → offset + size ≤ length array
    → first < 0x80 → BeginsWith (unread array offset read size) first
ascii-begins array offset read size {first} is some within small =
    let more : size - read ≡ suc (size - (read + 1)) = omega arith in
    record {
      rest = take (size - (read + 1)) (drop (offset + read + 1) array);
      scalar = scalar-is first (inl (omega arith));
      starts = rw (more, drop_more array (offset + read) 0 (omega arith), utf8-one first small, is) refl;
    }

-- the next character is c
module _ {F : Type 0} {can : F → ℕ → Type 0} {steps : F → ℕ → Bool → F → Type 0} {array_size : ℕ} {array₀ : List ℕ} {f₀ : F} {offset size : ℕ}
    {array : List ℕ} {f : F} {kept read : ℕ} (part : IsPartRetained can steps array_size array₀ f₀ offset size array f kept read)
    (within : offset + size ≤ length array) {c : ℕ} (begins : BeginsWith (unread array offset read size) c) where
  starts-std : unread array offset read size ≡ encode_utf8 c ++ begins.rest
  starts-std = begins.starts ∙ ap (λ l. l ++ begins.rest) (utf8-is c)

  rest-utf8 : IsUtf8 begins.rest
  rest-utf8 = IsUtf8-past_char _ begins.rest c part.rest_text starts-std

  rest-chars : chars (unread array offset read size) ≡ c ∷ chars begins.rest
  rest-chars = chars_past_char _ begins.rest c part.rest_text starts-std

  callable : IsCallableInTurn can steps f (c ∷ chars begins.rest)
  callable = rw rest-chars at part.callable

  pub callable-next : can f c
  callable-next = callable.at [] c _ f refl refl

  callable-later : (b : Bool) (g : F) → steps f c b g → IsCallableInTurn can steps g (chars begins.rest)
  callable-later b g s = record { at = λ before d after h e w. callable.at (c ∷ before) d after h (ap (λ l. c ∷ l) e) (g, (b, s), w) }

  char-within : read + width c ≤ size
  char-within =
      let long = length-take-le (size - read) (drop (offset + read) array) (omega (arith, length-drop (offset + read) array)) in
      omega (arith, long, simp length-append at (ap length begins.starts), length-utf8 c)

  after : unread array offset (read + width c) size ≡ begins.rest
  after =
      let sum : offset + (read + width c) ≡ offset + read + width c = omega arith in
      let whole : width c + (size - (read + width c)) ≡ size - read = omega (arith, char-within) in
      rw (sum, ← drop-drop (width c) (offset + read) array, ← drop-take (width c) (size - (read + width c)) (drop (offset + read) array))
      (rw (whole, begins.starts)
      (drop_at (utf8 c) begins.rest (width c) (length-utf8 c)))

  -- it is moved after the first ones
  pub retained-moved : (moved : List ℕ)
      → moved ≡ take (offset + kept) array ++ (take (width c) (drop (offset + read) array) ++ drop (offset + kept + width c) array)
      → (g : F) → steps f c true g
      → IsPartRetained can steps array_size array₀ f₀ offset size moved g (kept + width c) (read + width c)
  retained-moved moved written g step =
      let inside = char-within in
      let there = shifted array moved (offset + read) (offset + kept) (width c) (omega arith) (omega arith) written in
      let next = offset + (read + width c) in
      let rest : unread moved offset (read + width c) size ≡ begins.rest =
      ap (take (size - (read + width c))) (there.behind next (omega arith)) ∙ after in
      let char : take (width c) (drop (offset + read) array) ≡ utf8 c =
      sym (take-take (width c) (size - read) (drop (offset + read) array) (omega (arith, char-within)))
      ∙ ap (take (width c)) begins.starts ∙ take_at (utf8 c) begins.rest (width c) (length-utf8 c) in
      let both : take (kept + width c) (drop offset moved) ≡ take kept (drop offset array) ++ utf8 c =
      take-add kept (width c) (drop offset moved)
      ∙ rw (there.before offset kept (omega arith), drop-drop kept offset moved, there.here, char) refl in
      record {
        long = there.long ∙ part.long;
        kept_first = omega arith;
        read_within = char-within;
        rest_text = rw rest rest-utf8;
        kept_text = rw both (IsUtf8-append _ (utf8 c) part.kept_text (char-utf8 c begins.scalar));
        callable = rw rest (callable-later true g step);
        filtered = λ more h.
            let h = rw rest at h in
            let first = take kept (drop offset array) in
            rw (both, chars-append first (utf8 c) part.kept_text, char-chars c begins.scalar, append_assoc (chars first) (c ∷ []) more)
            ((rw rest-chars at part.filtered) (c ∷ more) (true ∷ h.0, h.1, ap suc h.2, (g, step, h.3), ap (λ l. c ∷ l) h.4));
      }

  -- it is left out
  pub retained-left_out : (g : F) → steps f c false g
      → IsPartRetained can steps array_size array₀ f₀ offset size array g kept (read + width c)
  retained-left_out g step = record {
    long = part.long;
    kept_first = omega arith;
    read_within = char-within;
    rest_text = rw after rest-utf8;
    kept_text = part.kept_text;
    callable = rw after (callable-later false g step);
    filtered = λ more h. let h = rw after at h in (rw rest-chars at part.filtered) more (false ∷ h.0, h.1, ap suc h.2, (g, step, h.3), h.4);
  }
