-- A text at an offset of its array, and what it is once a part of it is replaced, dropped or kept.
use Rattle.std.proofs.Common.{◌≡◌, ℕ, ◌+◌, ◌-◌, ◌≤◌, List, ◌++◌, length, take, drop, refl, ap, ◌∙◌, arith, IsUtf8, chars, true, take-take}
use Rattle.std.proofs.lemmas.Str.{IsUtf8-append, chars-append}
use Rattle.std.proofs.lemmas.List.{drop-take, drop-drop, length-replicate}
use Rattle.std.proofs.Math.ListN.{replicate}
use Rattle.std.proofs.Math.Seq.{take-add}
use Rattle.arraystring_base.specs.Text.{size, cap, front, back, boundary}
use Rattle.arraystring_base.proofs.TextLaws.{bytes-utf8, size-borrowed}
use Rattle.arraystring_base.proofs.BoundaryLaws.{bytes-front, bytes-back, front-text, back-text}
use Rattle.arraystring_core.specs.Stored.{StringView}
use Rattle.arraystring_core.specs.Layout.{string_in, MeetsStringInvariant}
use Rattle.arraystring_core.specs.GhostProofs.{stored-utf8}
use Rattle.arraystring_core.proofs.StoredLaws.{opened-bytes, opened-size, opened-within, opened-text, text_spelled}
use Rattle.arraystring_core.proofs.GapLemmas.{written, written-from-zero, shifted}

-- the n bytes of the array from the offset p on are the text t, and end within the capacity
pub record StoredAt (array_size : ℕ) (array : List ℕ) (p n : ℕ) (t : List ℕ) : Type 0 where
  pub in_array : MeetsStringInvariant array_size array p n
  pub shown : chars (take n (drop p array)) ≡ t

-- these bytes are the UTF-8 of t
pub stored-from-utf8 : {array_size : ℕ} (array : List ℕ) (p n : ℕ) {bs t : List ℕ} → IsUtf8 bs → chars bs ≡ t → length array ≡ array_size
    → p + n ≤ cap array_size → take n (drop p array) ≡ bs → StoredAt array_size array p n t
stored-from-utf8 array p n u is long within same =
    record { in_array = record { within = within; length = long; utf8 = ∣ rw same u ∣₁ }; shown = ap chars same ∙ is }

-- `given` was written at the start of a new array
pub made : {array_size : ℕ} {given after : List ℕ} → IsUtf8 given → length given ≤ cap array_size
    → after ≡ take 0 (replicate array_size 0) ++ (given ++ drop (0 + length given) (replicate array_size 0))
    → StoredAt array_size after 0 (length given) (chars given)
made {array_size} {given} {after} u fits put =
    let zeros : length {A = ℕ} (replicate array_size 0) ≡ array_size = length-replicate array_size 0 in
    let there = written (replicate array_size 0) after given 0 (length given) refl (omega (arith, zeros)) put in
    stored-from-utf8 after 0 (length given) u refl (there.long ∙ zeros) (omega arith) there.here

-- where the same bytes are is the same text
pub carried : {array_size : ℕ} {array : List ℕ} {p n : ℕ} {t : List ℕ} → StoredAt array_size array p n t → (after : List ℕ) (q : ℕ)
    → length after ≡ array_size → q + n ≤ cap array_size → take n (drop q after) ≡ take n (drop p array) → StoredAt array_size after q n t
carried {n = n} is after q = stored-from-utf8 after q n (stored-utf8 is.in_array) is.shown

-- two texts, one behind the other
pub joined : {array_size : ℕ} {array : List ℕ} {p n m : ℕ} {a b : List ℕ} → StoredAt array_size array p n a → StoredAt array_size array (p + n) m b
    → StoredAt array_size array p (n + m) (a ++ b)
joined {array = array} {p} {n} {m} one two =
    let u = stored-utf8 one.in_array in
    let w = stored-utf8 two.in_array in
    let both = take-add n m (drop p array) ∙ ap (λ l. take n (drop p array) ++ take m l) (drop-drop n p array) in
    stored-from-utf8 array p (n + m) (IsUtf8-append _ _ u w) (rw (chars-append _ _ u, one.shown, two.shown)) one.in_array.length
    (omega (arith, two.in_array)) both

module _ {array_size : ℕ} {array : List ℕ} {p n : ℕ} (is : MeetsStringInvariant array_size array p n) {v : StringView} (e : string_in array p n ≡ v) where
  -- the part before the boundary m, and that from it on
  module _ (m : ℕ) (b : boundary v.text m ≡ true) where
    pub kept : StoredAt array_size array p m (front v.text m)
    kept =
        let within = opened-within is e m b in
        let text = front-text v.text m (opened-text is e) in
        stored-from-utf8 array p m (bytes-utf8 _ text) (text_spelled _ text) is.length (omega arith)
        (rw (← take-take m n (drop p array) within, ← opened-bytes is e) (bytes-front v.text m b))

    pub dropped : StoredAt array_size array (p + m) (n - m) (back v.text m)
    dropped =
        let within = opened-within is e m b in
        let whole : m + (n - m) ≡ n = omega arith in
        let text = back-text v.text m (opened-text is e) in
        stored-from-utf8 array (p + m) (n - m) (bytes-utf8 _ text) (text_spelled _ text) is.length (omega arith)
        (rw (← drop-drop m p array, ← drop-take m (n - m) (drop p array), whole, ← opened-bytes is e) (bytes-back v.text m b))

  -- what the sizes of the text and of `given` are, and that a boundary is within
  pub spliced : {end : ℕ} → boundary v.text end ≡ true → {given : List ℕ} → IsUtf8 given
      → (size v.text ≡ n) × (end ≤ n) × (size (chars given) ≡ length given)
  spliced d u = (opened-size is e, opened-within is e _ d, size-borrowed u)

  -- `given` was written behind the text
  pub appended : {given after : List ℕ} → IsUtf8 given → p + n + length given ≤ cap array_size
      → after ≡ take (p + n) array ++ (given ++ drop (p + n + length given) array)
      → StoredAt array_size after p (n + length given) (v.text ++ chars given)
  appended {given} {after} u room put =
      let there = written array after given (p + n) (length given) refl (omega arith) put in
      let long = there.long ∙ is.length in
      joined (stored-from-utf8 after p n (stored-utf8 is) (ap (λ w. w.text) e) long is.within (there.before p n (omega arith)))
      (stored-from-utf8 after (p + n) (length given) u refl long room there.here)

  module _ {start end : ℕ} (order : start ≤ end) (b : boundary v.text start ≡ true) (d : boundary v.text end ≡ true) where
    -- the text was moved to the offset q, and `given` was written into its gap
    module _ {given : List ℕ} (room : size v.text - (end - start) + size (chars given) ≤ cap array_size) (u : IsUtf8 given)
        {offset count len : ℕ} (at : offset ≡ p) (many : count ≡ n) (wide : len ≡ length given)
        (gapped : List ℕ) {after : List ℕ} (long : length gapped ≡ array_size) where
      put : (q : ℕ) → q + (start + (length given + (n - end))) ≤ cap array_size
          → take start (drop q gapped) ≡ take start (drop p array)
          → take (n - end) (drop (q + (start + length given)) gapped) ≡ take (n - end) (drop (p + end) array)
          → after ≡ take (q + start) gapped ++ (given ++ drop (q + start + length given) gapped)
          → StoredAt array_size after q (start + (len + (count - end))) (front v.text start ++ (chars given ++ back v.text end))
      put q within moved tail over =
          let there = written gapped after given (q + start) (length given) refl (omega arith) over in
          let still = there.long ∙ long in
          let sum : q + start + length given ≡ q + (start + length given) = omega arith in
          rw (many, wide)
          (joined (carried (kept start b) after q still (omega arith) (there.before q start (omega arith) ∙ moved))
          (joined (stored-from-utf8 after (q + start) (length given) u refl still (omega arith) there.here)
          (carried (dropped end d) after (q + start + length given) still (omega arith)
          (ap (take (n - end)) (there.behind (q + start + length given) (omega arith)) ∙ rw sum tail))))

      pub filled : offset + (start + (len + (count - end))) ≤ cap array_size
          → take start (drop offset gapped) ≡ take start (drop offset array)
          → take (count - end) (drop (offset + (start + len)) gapped) ≡ take (count - end) (drop (offset + end) array)
          → after ≡ take (offset + start) gapped ++ (given ++ drop (offset + start + length given) gapped)
          → StoredAt array_size after p (start + (len + (count - end))) (front v.text start ++ (chars given ++ back v.text end))
      filled within moved tail over =
          put p (omega arith) (rw at at moved) (rw (at, many, wide) at tail) (rw at at over)

      pub moved_to_start : take start gapped ≡ take start (drop offset array)
          → take (count - end) (drop (start + len) gapped) ≡ take (count - end) (drop (offset + end) array)
          → after ≡ take start gapped ++ (given ++ drop (start + length given) gapped)
          → StoredAt array_size after 0 (start + (len + (count - end))) (front v.text start ++ (chars given ++ back v.text end))
      moved_to_start moved tail over =
          let sum : 0 + (start + length given) ≡ start + length given = omega arith in
          put 0 (omega (arith, spliced d u)) (rw at at moved) (rw sum (rw (at, many, wide) at tail))
          (written-from-zero _ _ _ start over)

-- the text was moved to offset 0, and then `given` was written behind it
pub appended_at_front : {array_size : ℕ} {array : List ℕ} {p n : ℕ} (is : MeetsStringInvariant array_size array p n) {v : StringView} → string_in array p n ≡ v
    → {given moved after : List ℕ} → IsUtf8 given → n + length given ≤ cap array_size
    → moved ≡ take 0 array ++ (take n (drop p array) ++ drop (0 + n) array)
    → after ≡ take n moved ++ (given ++ drop (n + length given) moved)
    → StoredAt array_size after 0 (n + length given) (v.text ++ chars given)
appended_at_front {array_size} {array} {p} {n} is e {given} {moved} {after} u room front put =
    let there = shifted array moved p 0 n (omega (arith, is.length, is.within)) (omega (arith, is.length, is.within)) front in
    let text = stored-from-utf8 array p n (stored-utf8 is) (ap (λ w. w.text) e) is.length is.within refl in
    let first = carried text moved 0 (there.long ∙ is.length) (omega (arith, is.within)) there.here in
    let all = appended first.in_array refl u (omega (arith, room)) (written-from-zero moved after given n put) in
    record { in_array = all.in_array; shown = all.shown ∙ ap (λ t. t ++ chars given) first.shown }
