-- A character comes off the front, or off the back, of what is left.
use Rattle.std.proofs.Common.{◌≡◌, ℕ, ◌+◌, ◌-◌, ◌<◌, ◌≤◌, List, [], ◌∷◌, ◌++◌, refl, sym, ap, ◌∙◌, arith, true, length, append_assoc, get_or, chars, take, drop, IsUtf8, length-take-le, length-drop}
use Rattle.std.proofs.lemmas.Str.{chars_past_char}
use Rattle.std.specs.Char.{encode_utf8}
use Rattle.std.proofs.lemmas.List.{get_or-take, get_or-drop, drop_more}
use Rattle.arraystring_base.specs.Text.{width, size, cap, bytes, front, back, boundary}
use Rattle.arraystring_base.proofs.TextLaws.{size-append, size-borrowed, chars-bytes, empty-size}
use Rattle.arraystring_base.proofs.BoundaryLaws.{front-back, front-is, back-is, front-size, back-size, boundary-is, bytes-back, next-char}
use Rattle.arraystring_core.specs.Layout.{string_in, MeetsDrainInvariant}
use Rattle.arraystring_core.specs.GhostProofs.{stored-utf8, stored-size, stored-bytes}
use Rattle.arraystring_core.specs.Drained.{DrainView, drain_advanced_to}
use Rattle.arraystring_core.proofs.StoredLaws.{opened-within}
use Rattle.arraystring_core.proofs.SpanLemmas.{StoredAt, dropped, kept}
use Rattle.arraystring_core.proofs.EndLemmas.{low-width, first-low}

-- c came off the front, or off the back, of the text t, and the part from i on of the n bytes from the offset p on is left
pub record GivesFirst (array_size : ℕ) (array : List ℕ) (p n i : ℕ) (t : List ℕ) (c : ℕ) : Type 0 where
  pub in_array : MeetsDrainInvariant array_size array p n i
  pub rest : t ≡ c ∷ back (string_in array p n).text i

pub record GivesLast (array_size : ℕ) (array : List ℕ) (p n i : ℕ) (t : List ℕ) (c : ℕ) : Type 0 where
  pub in_array : MeetsDrainInvariant array_size array p n i
  pub rest : t ≡ back (string_in array p n).text i ++ c ∷ []

module _ {array_size : ℕ} {array : List ℕ} {p n i : ℕ} (is : MeetsDrainInvariant array_size array p n i) where
  abbrev removed : List ℕ
  removed = (string_in array p n).text

  pub given-within : i ≤ n
  given-within = opened-within is.in_array refl i is.at

  left_stored : StoredAt array_size array (p + i) (n - i) (back removed i)
  left_stored = dropped is.in_array refl i is.at

  -- the bytes of what is left
  pub borrowed-utf8 : IsUtf8 (take (n - i) (drop (p + i) array))
  borrowed-utf8 = stored-utf8 left_stored.in_array

  pub borrowed-bytes : {v : DrainView} → drain_advanced_to (string_in array p n) i ≡ v → take (n - i) (drop (p + i) array) ≡ bytes v.left
  borrowed-bytes e = sym (stored-bytes left_stored.in_array) ∙ ap bytes (left_stored.shown ∙ ap (λ d. d.left) e)

  -- the value that a contract sees
  module _ {v : DrainView} (e : drain_advanced_to (string_in array p n) i ≡ v) where
    left-is : back removed i ≡ v.left
    left-is = ap (λ d. d.left) e

    left-size : size v.left ≡ n - i
    left-size = omega (arith, ap size left-is, back-size removed i is.at, stored-size is.in_array)

    left-bytes : bytes v.left ≡ drop i (take n (drop p array))
    left-bytes = ap bytes (sym left-is) ∙ sym (bytes-back removed i is.at) ∙ ap (drop i) (stored-bytes is.in_array)

    pub left-fits : size v.left ≤ cap array_size
    left-fits = omega (arith, left-size)

    pub none-left : n ≤ i → v.left ≡ []
    none-left past = empty-size (omega (arith, left-size))

    -- the first character is given
    module _ (c : ℕ) (rest : List ℕ) (starts : v.left ≡ c ∷ rest) where
      front-given : GivesFirst array_size array p n (i + width c) v.left c
      front-given =
          let next = next-char removed i is.at c rest (left-is ∙ starts) in
          record { in_array = record { in_array = is.in_array; at = next.0 }; rest = rw next.1 starts }

    -- if what is left is known by its bytes, and by those after its first character
    module _ {bs : List ℕ} (u : IsUtf8 bs) (shown : bs ≡ bytes v.left) (c : ℕ) {rest : List ℕ} (w : IsUtf8 rest)
        (begins : bs ≡ encode_utf8 c ++ rest) where
      begun : v.left ≡ c ∷ chars rest
      begun = sym (chars-bytes u shown) ∙ chars_past_char bs rest c u begins

      stepped : i + width c + length rest ≡ n
      stepped = omega (arith, given-within, left-size, ap size begun, size-borrowed w)

      pub decoded-within : length rest ≤ n
      decoded-within = omega (arith, stepped)

      pub decoded : GivesFirst array_size array p n (n - length rest) v.left c
      decoded = let next : i + width c ≡ n - length rest = omega (arith, stepped) in rw next at (front-given c (chars rest) begun)

    -- if it is ASCII
    module _ (some : i < n) {first : ℕ} (there : first ≡ get_or array (p + i) 0) (low : first < 128) where
      first-is : (rest : List ℕ) × (v.left ≡ first ∷ rest)
      first-is =
          let bs = take n (drop p array) in
          let long = length-take-le n (drop p array) (omega (arith, length-drop p array, is.in_array)) in
          let more = rw (get_or-take n (drop p array) i 0 some, get_or-drop p array i 0, ← there) at (drop_more bs i 0 (omega arith)) in
          first-low v.left (left-bytes ∙ more) low

      pub first-given : GivesFirst array_size array p n (i + 1) v.left first
      first-given = rw (low-width _ low) at (front-given first first-is.0 first-is.1)

    -- the last character is given
    module _ (c : ℕ) (rest : List ℕ) (ends : v.left ≡ rest ++ c ∷ []) where
      abbrev before : List ℕ
      before = front removed i

      parts : removed ≡ (before ++ rest) ++ c ∷ []
      parts = sym (front-back removed i) ∙ ap (λ l. before ++ l) (left-is ∙ ends) ∙ sym (append_assoc before rest (c ∷ []))

      shorter : size (before ++ rest) ≡ i + size rest
      shorter = omega (arith, size-append before rest, front-size removed i is.at)

      last-starts : boundary removed (i + size rest) ≡ true
      last-starts = rw parts (boundary-is (before ++ rest) (c ∷ []) (i + size rest) shorter)

      kept_stored : StoredAt array_size array p (i + size rest) (front removed (i + size rest))
      kept_stored = kept is.in_array refl (i + size rest) last-starts

      kept-text : (string_in array p (i + size rest)).text ≡ before ++ rest
      kept-text =
          kept_stored.shown ∙ ap (λ t. front t (i + size rest)) parts ∙ front-is (before ++ rest) (c ∷ []) (i + size rest) shorter

      pub back-within : i + size rest ≤ n
      back-within = opened-within is.in_array refl (i + size rest) last-starts

      pub back-given : GivesLast array_size array p (i + size rest) i v.left c
      back-given = record {
        in_array = record { in_array = kept_stored.in_array; at = rw kept-text (boundary-is before rest i (front-size removed i is.at)) };
        rest = rw (kept-text, back-is before rest i (front-size removed i is.at)) ends;
      }
