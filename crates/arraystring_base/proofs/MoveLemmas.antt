-- A run of bytes that is moved as its first k and its last k.
use Rattle.std.proofs.Common.{◌≡◌, ℕ, ◌+◌, ◌-◌, ◌≤◌, ◌<◌, List, ◌++◌, length, take, drop, get_or, ◌∙◌, arith, take-add, drop-drop, take_all, inl, inr}
use Rattle.std.proofs.lemmas.Bool.{cases_lt}
use Rattle.std.proofs.lemmas.Grind.{same_number_lists, elements}

-- byte by byte: what the first part writes, what the second keeps of it, and what the second writes. `grind` looks the index up
-- in the parts that are joined (`elements`): the bounds say in which it is
module _ (src old half first : List ℕ) (from to k len : ℕ) (source : from + len ≤ length src) (target : to + len ≤ length old)
    (least : k ≤ len) (is_first : first ≡ take k (drop from src)) (one : half ≡ take to old ++ (first ++ drop (to + k) old)) where
  early : (i : ℕ) → i < to + k → get_or half i 0 ≡ get_or (take to old ++ (take len (drop from src) ++ drop (to + len) old)) i 0
  early i before = grind (arith, elements)

  module _ (new last : List ℕ) (most : len - k ≤ k) (is_last : last ≡ take k (drop (from + (len - k)) src))
      (two : new ≡ take (to + (len - k)) half ++ (last ++ drop (to + (len - k) + k) half)) where
    kept : (i : ℕ) → i < to + (len - k) → get_or new i 0 ≡ get_or half i 0
    kept i before = grind (arith, elements)

    late : (i : ℕ) → to + (len - k) ≤ i → i < length new
        → get_or new i 0 ≡ get_or (take to old ++ (take len (drop from src) ++ drop (to + len) old)) i 0
    late i after lt = grind (arith, elements)

    pub moved-by-ends : new ≡ take to old ++ (take len (drop from src) ++ drop (to + len) old)
    moved-by-ends = same_number_lists new _ (grind (arith, elements))
        (λ i lt. elim (cases_lt i (to + (len - k))) [
          | inl before ↦ kept i before ∙ early i (omega arith)
          | inr after ↦ late i after lt
        ])

-- two parts of k bytes that are written behind one another, also byte by byte
pub written-as-one : (old half new first second : List ℕ) (at k : ℕ) → at + (k + k) ≤ length old → length first ≡ k
    → half ≡ take at old ++ (first ++ drop (at + k) old) → new ≡ take (at + k) half ++ (second ++ drop (at + k + k) half)
    → new ≡ take at old ++ ((first ++ second) ++ drop (at + (k + k)) old)
written-as-one old half new first second at k within is_long one two =
    same_number_lists new _ (grind (arith, elements)) (λ i lt. grind (arith, elements))

-- two parts of k bytes that are read behind one another
pub read-as-one : (old first second : List ℕ) (at k : ℕ) → first ≡ take k (drop at old) → second ≡ take k (drop (at + k) old)
    → first ++ second ≡ take (k + k) (drop at old)
read-as-one old first second at k one two =
    rw (one, two, ← drop-drop k at old, ← take-add k k (drop at old))

-- all of what is given, written as its first k bytes and its last k
pub copied-by-ends : (old half new given first last : List ℕ) (at k : ℕ) → at + length given ≤ length old
    → k ≤ length given → length given - k ≤ k
    → first ≡ take k (drop 0 given) → last ≡ take k (drop (length given - k) given)
    → half ≡ take at old ++ (first ++ drop (at + k) old)
    → new ≡ take (at + (length given - k)) half ++ (last ++ drop (at + (length given - k) + k) half)
    → new ≡ take at old ++ (given ++ drop (at + length given) old)
copied-by-ends old half new given first last at k within least most is_first is_last one two =
    let zero : 0 + (length given - k) ≡ length given - k = omega arith in
    rw (take_all (length given) given (omega arith)) at
    (moved-by-ends given old half first 0 at k (length given) (omega arith) within least is_first one new last most
    (rw zero is_last) two)

pub ruleset written_as_one = (written-as-one)
