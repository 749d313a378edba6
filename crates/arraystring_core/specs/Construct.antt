-- Some constructors take the whole text or refuse it, and this definition says what they return.
use Rattle.std.specs.Prelude.{◌≡◌, ℕ, ◌<◌, ◌≤◌, List, Result, MatchResult}
use Rattle.arraystring_base.specs.Text.{size}
use Rattle.arraystring_base.specs.declared.error.Error.{Error}
use Rattle.arraystring_base.specs.declared.error.Error.TheVariants as error
use Rattle.arraystring_core.specs.Stored.{StringView}

-- the result is a string with the whole text t if t fits into n bytes, and else the error `OutOfBounds`
abbrev pub IsWholeOrRefused : List ℕ → ℕ → Result StringView Error → Type 0
IsWholeOrRefused t n result = MatchResult result (λ s. (size t ≤ n) × (s.text ≡ t)) (λ e. (n < size t) × (e ≡ error.OutOfBounds))
