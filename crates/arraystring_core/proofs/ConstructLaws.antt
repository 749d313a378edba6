-- Laws of what a constructor makes.
use Rattle.std.proofs.Common.{◌≡◌, ℕ, ◌-◌, ◌<◌, ◌≤◌, List, [], ◌++◌, ◌⊎◌, refl, sym, ap, ◌∙◌, arith, inl, inr, Result, Ok, Err, subst}
use Rattle.std.specs.Result.{IsErr}
use Rattle.arraystring_base.specs.Text.{size, cut}
use Rattle.arraystring_base.proofs.TextLaws.{size-append}
use Rattle.arraystring_base.proofs.CutLaws.{cut-all, cut-past}
use Rattle.arraystring_base.specs.declared.error.Error.{Error}
use Rattle.arraystring_base.specs.declared.error.OutOfBounds.{OutOfBounds}
use Rattle.arraystring_core.specs.Stored.{StringView}
use Rattle.arraystring_core.specs.Edits.{map_err_from_out_of_bounds}
use Rattle.arraystring_core.specs.Construct.{IsWholeOrRefused}

-- what does not fit is refused
pub refused-made : (result : Result StringView OutOfBounds) (t : List ℕ) (n : ℕ) → IsErr result → n < size t → IsWholeOrRefused t n (map_err_from_out_of_bounds result)
refused-made (Ok s) t n err past = absurd (cc)
refused-made (Err e) t n err past = (past, refl)

-- t fits and is all, or is larger than n and a prefix of all
abbrev pub IsAllOrPast : List ℕ → List ℕ → ℕ → Type 0
IsAllOrPast t all n = ((t ≡ all) × (size t ≤ n)) ⊎ ((more : List ℕ) × (all ≡ t ++ more) × (n < size t))

-- so it decides for all
pub settled-cut : (t all : List ℕ) (n : ℕ) → IsAllOrPast t all n → cut t n ≡ cut all n
settled-cut t all n (inl ends) = ap (λ l. cut l n) ends.0
settled-cut t all n (inr stops) = sym (ap (λ l. cut l n) stops.1 ∙ cut-past t stops.0 n stops.2)

pub made-more : (result : Result StringView Error) (t all : List ℕ) (n : ℕ) → IsAllOrPast t all n
    → IsWholeOrRefused t n result → IsWholeOrRefused all n result
made-more result t all n (inl ends) made = subst (λ l. IsWholeOrRefused l n result) ends.0 made
made-more (Ok s) t all n (inr stops) made = absurd (omega arith)
made-more (Err e) t all n (inr stops) made = (omega (arith, ap size stops.1, size-append t stops.0), made.1)

-- what is added to the empty text
pub fresh-room : (old : List ℕ) (n : ℕ) → old ≡ [] → n - size old ≡ n
fresh-room old n empty = omega (arith, ap size empty)

module _ (old t : List ℕ) (n : ℕ) (empty : old ≡ []) where
  pub fresh-cut : (new : List ℕ) → new ≡ old ++ cut t (n - size old) → new ≡ cut t n
  fresh-cut new e = e ∙ ap (λ l. l ++ cut t (n - size old)) empty ∙ ap (cut t) (fresh-room old n empty)

  pub fresh-whole : (new : List ℕ) → size t ≤ n - size old → new ≡ old ++ cut t (n - size old) → (size t ≤ n) × (new ≡ t)
  fresh-whole new le e = let fits : size t ≤ n = omega (arith, fresh-room old n empty) in (fits, fresh-cut new e ∙ cut-all fits)
