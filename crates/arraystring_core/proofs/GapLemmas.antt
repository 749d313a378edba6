-- Runs of bytes that are moved and written.
use Rattle.std.proofs.Common.{◌≡◌, ℕ, ◌+◌, ◌≤◌, List, ◌++◌, length, take, drop, sym, ap, ◌∙◌, arith, take-take, take_at, length-take-le, length-drop, length-append, append_assoc}
use Rattle.std.proofs.lemmas.List.{drop-take, drop_at, take-append-le}
use Rattle.std.proofs.lemmas.Slice.{drop-append-drop}

-- the k bytes `given` stand from `at` on, and around them is what was there before
pub record IsWritten (old new given : List ℕ) (at k : ℕ) : Type 0 where
  pub long : length new ≡ length old
  pub before : (i n : ℕ) → i + n ≤ at → take n (drop i new) ≡ take n (drop i old)
  pub here : take k (drop at new) ≡ given
  pub behind : (i : ℕ) → at + k ≤ i → drop i new ≡ drop i old

-- they were written over what was there
pub written : (old new given : List ℕ) (at k : ℕ) → length given ≡ k → at + k ≤ length old
    → new ≡ take at old ++ (given ++ drop (at + k) old) → IsWritten old new given at k
written old new given at k wide within is =
    let rest = given ++ drop (at + k) old in
    let front : length (take at old) ≡ at = length-take-le at old (omega arith) in
    record {
      long = omega (arith, simp length-append at (ap length is), length-drop (at + k) old);
      before = λ i n le.
          sym (drop-take i n new)
          ∙ ap (drop i) (ap (take (i + n)) is ∙ take-append-le (i + n) (take at old) rest (omega arith) ∙ take-take (i + n) at old le)
          ∙ drop-take i n old;
      here = ap (λ l. take k (drop at l)) is ∙ ap (take k) (drop_at (take at old) rest at front) ∙ take_at given _ k wide;
      behind = λ i le.
          ap (drop i) (is ∙ sym (append_assoc (take at old) given (drop (at + k) old)))
          ∙ drop-append-drop (at + k) old (take at old ++ given) i le (omega (arith, length-append (take at old) given));
    }

-- they were moved from the offset `from`
pub shifted : (old new : List ℕ) (from to k : ℕ) → from + k ≤ length old → to + k ≤ length old
    → new ≡ take to old ++ (take k (drop from old) ++ drop (to + k) old) → IsWritten old new (take k (drop from old)) to k
shifted old new from to k source = written old new _ to k (length-take-le k (drop from old) (omega (arith, length-drop from old)))

-- what was written from `at` on, said of 0 + at
pub written-from-zero : (old new given : List ℕ) (at : ℕ) → new ≡ take at old ++ (given ++ drop (at + length given) old)
    → new ≡ take (0 + at) old ++ (given ++ drop (0 + at + length given) old)
written-from-zero old new given at is = let zero : 0 + at ≡ at = omega arith in rw zero is
