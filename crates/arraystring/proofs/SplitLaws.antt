-- Laws back from a split: a text that is put together at a character is split there.
use Rattle.std.proofs.Common.{◌≡◌, ℕ, ◌+◌, ◌-◌, ◌<◌, ◌≤◌, Bool, true, false, not, List, [], ◌∷◌, ◌++◌, length, get_or, refl, ap, ◌∙◌, arith, zero, suc, take, drop, length-append}
use Rattle.std.proofs.lemmas.Bool.Decides.{nat_tests}
use Rattle.std.proofs.lemmas.Grind.{common_steps}
use Rattle.std.proofs.lemmas.List.{get_or-append-add}
use Rattle.std.proofs.lemmas.List.Sums.{position_or_len_is, suffix_len_is}
use Rattle.std.specs.Prelude.{◌==◌}
use Rattle.std.specs.List.{before_first, after_first, before_last, after_last, position_or_len, prefix_len, suffix_len}
use Rattle.std.specs.Str.{NonePass}

-- the part before the joint, the part behind its first character, and where that stands
module _ (a : List ℕ) (ch : ℕ) (b : List ℕ) where
  take-joined : take (length a) (a ++ ch ∷ b) ≡ a
  take-joined = grind (arith, common_steps)

  inside-joined : length a < length (a ++ ch ∷ b)
  inside-joined = grind (arith, common_steps)

drop-joined : (a : List ℕ) (ch : ℕ) (b : List ℕ) → drop (length a + 1) (a ++ ch ∷ b) ≡ b
drop-joined [] ch b = refl
drop-joined (x ∷ a) ch b = let next : suc (length a) + 1 ≡ suc (length a + 1) = omega arith in rw next (drop-joined a ch b)

-- as many pass `q` as stand before the joint, if each of them does and its first character does not
prefix-joined : (q : ℕ → Bool) (a : List ℕ) (ch : ℕ) (b : List ℕ) → prefix_len q a ≡ length a → q ch ≡ false
    → prefix_len q (a ++ ch ∷ b) ≡ length a
prefix-joined q [] ch b all stops = grind (arith, common_steps)
prefix-joined q (x ∷ a) ch b all stops = grind (arith, common_steps, prefix-joined q a ch b)

-- in a form that `grind` finds, whatever the test: it looks for how many of the whole pass
pub joined-found : (q : ℕ → Bool) (a : List ℕ) (ch : ℕ) (b : List ℕ)
    → (prefix_len q (a ++ ch ∷ b) ≡ prefix_len q (a ++ ch ∷ b))
    × (prefix_len q a ≡ length a → q ch ≡ false
    → (prefix_len q (a ++ ch ∷ b) ≡ length a)
    × (take (length a) (a ++ ch ∷ b) ≡ a)
    × (drop (length a + 1) (a ++ ch ∷ b) ≡ b)
    × (length a < length (a ++ ch ∷ b)))
joined-found q a ch b =
    (refl, λ all stops. (prefix-joined q a ch b all stops, take-joined a ch b, drop-joined a ch b, inside-joined a ch b))

-- where `ch` is not in `a`, `a ++ ch ∷ b` is split behind `a`
pub joined-split : (ch : ℕ) (a b : List ℕ) → position_or_len (λ c. c == ch) a ≡ length a
    → (position_or_len (λ c. c == ch) (a ++ ch ∷ b) < length (a ++ ch ∷ b))
    × (before_first (λ c. c == ch) (a ++ ch ∷ b) ≡ a)
    × (after_first (λ c. c == ch) (a ++ ch ∷ b) ≡ b)
joined-split ch a b none =
    let found : position_or_len (λ c. c == ch) (a ++ ch ∷ b) ≡ length a = prefix-joined _ a ch b none (grind arith) in (
      rw found (inside-joined a ch b),
      ap (λ n. take n (a ++ ch ∷ b)) found ∙ take-joined a ch b,
      ap (λ n. drop (n + 1) (a ++ ch ∷ b)) found ∙ drop-joined a ch b,
    )

-- what stands before and after the last place that passes
module _ (p : ℕ → Bool) where
  none-at : (t : List ℕ) (k : ℕ) → NonePass p t → k < length t → p (get_or t k 0) ≡ false
  none-at [] k none below = absurd (omega (arith, below))
  none-at (x ∷ t) zero none below = none.0
  none-at (x ∷ t) (suc k) none below = none-at t k none.1 (omega (arith, below))

  -- what passes stands within the text, and so does the first that passes
  pub position-inside : (a : List ℕ) (ch : ℕ) (b : List ℕ) → p ch ≡ true
      → position_or_len p (a ++ ch ∷ b) < length (a ++ ch ∷ b)
  position-inside [] ch b passes = rw passes (omega arith)
  position-inside (x ∷ a) ch b passes = grind (arith, nat_tests, position-inside a ch b passes)

  -- if the first character behind the joint passes, and none after it does, these are the parts
  pub joined-last : (a : List ℕ) (ch : ℕ) (b : List ℕ) → p ch ≡ true → NonePass p b
      → (before_last p (a ++ ch ∷ b) ≡ a) × (after_last p (a ++ ch ∷ b) ≡ b)
  joined-last a ch b passes none =
      let t = a ++ ch ∷ b in
      let long : length t ≡ length a + 1 + length b = omega (arith, length-append a (ch ∷ b)) in
      let behind : (k : ℕ) → length a + 1 ≤ k → k < length t → not (p (get_or t k 0)) ≡ true =
      λ k from below.
      let m = k - (length a + 1) in
      let place : k ≡ length a + suc m = omega (arith, from) in
      let read : get_or t k 0 ≡ get_or b m 0 = ap (λ k. get_or t k 0) place ∙ get_or-append-add a (ch ∷ b) (suc m) 0 in
      ap not (ap p read ∙ none-at b m none (omega (arith, from, below, long))) in
      let before : length a + 1 - 1 ≡ length a + 0 = omega arith in
      let here : not (p (get_or t (length a + 1 - 1) 0)) ≡ false =
      ap not (ap p (ap (λ k. get_or t k 0) before ∙ get_or-append-add a (ch ∷ b) 0 0) ∙ passes) in
      let so_many : suffix_len (λ c. not (p c)) t ≡ length t - (length a + 1) =
      suffix_len_is (λ c. not (p c)) t (length a + 1) 0 (omega (arith, long)) behind (λ some. here) in
      let from : length t - suffix_len (λ c. not (p c)) t - 1 ≡ length a = omega (arith, so_many, long) in
      let to : length t - suffix_len (λ c. not (p c)) t ≡ length a + 1 = omega (arith, so_many, long) in
      (ap (λ n. take n t) from ∙ take-joined a ch b, ap (λ n. drop n t) to ∙ drop-joined a ch b)

  -- if none passes, nothing stands before, and all of it after
  pub none-last : (t : List ℕ) → NonePass p t
      → (position_or_len p t ≡ length t) × (before_last p t ≡ []) × (after_last p t ≡ t)
  none-last t none =
      let all : (k : ℕ) → 0 ≤ k → k < length t → not (p (get_or t k 0)) ≡ true =
      λ k from below. ap not (none-at t k none below) in
      let so_many : suffix_len (λ c. not (p c)) t ≡ length t - 0 =
      suffix_len_is (λ c. not (p c)) t 0 0 (omega arith) all (λ some. absurd (omega (arith, some))) in
      let from : length t - suffix_len (λ c. not (p c)) t - 1 ≡ 0 = omega (arith, so_many) in
      let to : length t - suffix_len (λ c. not (p c)) t ≡ 0 = omega (arith, so_many) in
      (position_or_len_is p t (length t) 0 (omega arith) (λ k below. none-at t k none below) (λ past. absurd (omega (arith, past))), ap (λ n. take n t) from, ap (λ n. drop n t) to)
