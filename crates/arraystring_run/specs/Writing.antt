-- A write that failed may have written a prefix of its bytes, and a buffer keeps back what is not written yet.
use Rattle.std.specs.Prelude.{◌≡◌, ℕ, List, ◌++◌, Option}
use Rattle.std.specs.Io.KnownBytes.{Appends}

-- a prefix of bs was appended, which may be nothing or all of bs
pub record AppendsPrefix (old new : Option (List ℕ)) (bs : List ℕ) : Type 0 where
  pub done : List ℕ
  pub later : List ℕ
  pub whole : bs ≡ done ++ later
  pub appended : Appends old new done

-- bs was put behind the bytes that waited in a buffer (`waited`). A prefix of both together was appended to the output, whose bytes are
-- `old` before and `new` after. The rest of both waits now (`waits`)
pub record PassesThroughBuffer (old new : Option (List ℕ)) (waited waits bs : List ℕ) : Type 0 where
  pub done : List ℕ
  pub whole : waited ++ bs ≡ done ++ waits
  pub appended : Appends old new done
