-- The first tight command of a run.
use Rattle.std.proofs.Common.{◌≡◌, ℕ, ◌+◌, List, [], ◌∷◌, ◌++◌, length, refl, arith, Option, Some, None, Bool, true, false, if◌then◌else◌}
use Rattle.std.specs.Prelude.{MatchOption}
use Rattle.arraystring_run.specs.Effects.{effect, is_tight, run_result, first_tight_from, NoneTight, IsFirstTight}
use Rattle.arraystring_run.specs.declared.commands.Command.{Command}

none-empty : (t : List ℕ) (n : ℕ) → NoneTight [] t n
none-empty t n [] c later e = absurd (cc)
none-empty t n (b ∷ before) c later e = absurd (cc)

none-cons : (d : Command) (ds : List Command) (t : List ℕ) (n : ℕ) → is_tight d t n ≡ false → NoneTight ds (effect d t n).text n
    → NoneTight (d ∷ ds) t n
none-cons d ds t n loose none [] c later e = cc
none-cons d ds t n loose none (b ∷ before) c later e = cc (none before c later (cc))

none-later : (d : Command) (ds : List Command) (t : List ℕ) (n : ℕ) → NoneTight (d ∷ ds) t n → NoneTight ds (effect d t n).text n
none-later d ds t n none before c later e = none (d ∷ before) c later (cc)

-- the first tight position, if the first command is at k
abbrev IsFirstFrom : ℕ → List Command → List ℕ → ℕ → Option ℕ → Type 0
IsFirstFrom k cs t n o = MatchOption o (NoneTight cs t n) (λ j. (before : List Command) × (c : Command) × (later : List Command)
    × (cs ≡ before ++ c ∷ later) × (j ≡ k + length before) × (is_tight c (run_result before t n).text n ≡ true) × NoneTight before t n)

first-from : (k : ℕ) (cs : List Command) (t : List ℕ) (n : ℕ) → IsFirstFrom k cs t n (first_tight_from k cs t n)
first-from k [] t n = none-empty t n
first-from k (d ∷ ds) t n = go (is_tight d t n) (first_tight_from (k + 1) ds (effect d t n).text n) refl
    (first-from (k + 1) ds (effect d t n).text n)
  where
    go : (b : Bool) (o : Option ℕ) → is_tight d t n ≡ b → IsFirstFrom (k + 1) ds (effect d t n).text n o
        → IsFirstFrom k (d ∷ ds) t n (if b then Some k else o)
    go true o is rest = ([], d, ds, refl, omega arith, is, none-empty t n)
    go false None loose none = none-cons d ds t n loose none
    go false (Some j) loose (before, c, later, parts, at, is, none) =
        (d ∷ before, c, later, cc, omega arith, is, none-cons d before t n loose none)

-- there is no other: where the first command is tight it is that, and else that of the others
only-from : (k : ℕ) (cs : List Command) (t : List ℕ) (n : ℕ) (o : Option ℕ) → IsFirstFrom k cs t n o → o ≡ first_tight_from k cs t n
only-from k [] t n None none = refl
only-from k [] t n (Some j) ([], c, later, parts, at, is, none) = absurd (cc)
only-from k [] t n (Some j) (b ∷ before, c, later, parts, at, is, none) = absurd (cc)
only-from k (d ∷ ds) t n o first = go (is_tight d t n) o (only-from (k + 1) ds (effect d t n).text n) refl first
  where
    clash : {X : Type 0} {b : Bool} → b ≡ true → b ≡ false → X
    clash is loose = absurd (cc)

    go : (b : Bool) (o : Option ℕ)
        → ((p : Option ℕ) → IsFirstFrom (k + 1) ds (effect d t n).text n p → p ≡ first_tight_from (k + 1) ds (effect d t n).text n)
        → is_tight d t n ≡ b → IsFirstFrom k (d ∷ ds) t n o
        → o ≡ (if b then Some k else first_tight_from (k + 1) ds (effect d t n).text n)
    go true None only is none = clash is (none [] d ds refl)
    go true (Some j) only is ([], c, later, parts, at, is_c, none) = let at : j ≡ k + 0 = at in let e : j ≡ k = omega arith in cc
    go true (Some j) only is (b ∷ before, c, later, parts, at, is_c, none) =
        let same : d ≡ b = cc (parts) in clash is (rw same (none [] b before refl))
    go false None only loose none = only None (none-later d ds t n none)
    go false (Some j) only loose ([], c, later, parts, at, is, none) =
        let same : d ≡ c = cc (parts) in clash (rw same is) loose
    go false (Some j) only loose (b ∷ before, c, later, parts, at, is, none) =
        let same : b ≡ d = cc (parts) in
        let rest : ds ≡ before ++ c ∷ later = cc (parts) in
        only (Some j) (
          before,
          c,
          later,
          rest,
          omega (arith, at),
          rw (← same) is,
          rw (← same) (none-later b before t n none),
        )

-- both laws, from the start of a run
pub first_tight-is : (cs : List Command) (t : List ℕ) (n : ℕ)
    → MatchOption (first_tight_from 0 cs t n) (NoneTight cs t n) (IsFirstTight cs t n)
first_tight-is cs t n = first (first_tight_from 0 cs t n) (first-from 0 cs t n) where
  first : (o : Option ℕ) → IsFirstFrom 0 cs t n o → MatchOption o (NoneTight cs t n) (IsFirstTight cs t n)
  first None none = none
  first (Some j) (before, c, later, parts, at, is, none) = (before, c, later, parts, omega arith, is, none)

pub first_tight-only : (cs : List Command) (t : List ℕ) (n : ℕ) (o : Option ℕ)
    → MatchOption o (NoneTight cs t n) (IsFirstTight cs t n) → o ≡ first_tight_from 0 cs t n
first_tight-only cs t n None none = only-from 0 cs t n None none
first_tight-only cs t n (Some j) (before, c, later, parts, at, is, none) =
    only-from 0 cs t n (Some j) (before, c, later, parts, omega (arith, at), is, none)

-- a position that was counted along the run
pub first_tight-at : (cs : List Command) (t : List ℕ) (n : ℕ) (o : Option ℕ) → o ≡ first_tight_from 0 cs t n
    → MatchOption o (NoneTight cs t n) (IsFirstTight cs t n)
first_tight-at cs t n o e = rw e (first_tight-is cs t n)
