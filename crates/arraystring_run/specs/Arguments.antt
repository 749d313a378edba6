-- The word that a program is given is its only argument.
use Rattle.std.specs.Prelude.{◌≡◌, ◌≤◌, ℕ, List, length, take, Option, Result, Ok, Err, IfSome, IsSome}
use Rattle.std.specs.declared.env.FillError.{FillError}
use Rattle.std.specs.declared.env.FillError.TheVariants.{NotPresent}
use Rattle.arraystring.specs.Stored.{StringView}
use Rattle.arraystring.specs.Text.{IsText, size, bytes}

-- if there is a word, it is the only argument: its bytes are the first `count` of the buffer `first`, and there is no second argument.
-- The other way round, there is a word if the first argument is a text of at most 255 bytes and there is no second argument
pub record IsOnlyWord (count : Result ℕ FillError) (first : List ℕ) (second : Result ℕ FillError) (word : Option StringView)
    : Type 0 where
  pub text : IfSome word (λ w. (n : ℕ) × (count ≡ Ok n) × (bytes w.text ≡ take n first))
  pub alone : IsSome word → second ≡ Err NotPresent
  pub whole : (t : List ℕ) (n : ℕ) → IsText t → size t ≤ 255 → count ≡ Ok n → n ≤ length first
      → bytes t ≡ take n first → second ≡ Err NotPresent → IsSome word
