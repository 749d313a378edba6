-- A contract sees `Steps` as two counts.
use Rattle.std.specs.Prelude.{ℕ}

-- the number of calls of `look`, and the number of bytes that `shift` moved to another offset
pub record StepsView : Type 0 where
  pub looked : ℕ
  pub moved : ℕ
