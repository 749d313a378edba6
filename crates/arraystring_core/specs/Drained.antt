-- These definitions say what a contract sees of a `Drain`.
use Rattle.std.specs.Prelude.{ℕ, ◌++◌, List, [], ◌∷◌, Option, Some, None, Result, Ok, Err, drop}
use Rattle.arraystring_base.specs.Text.{front, back}
use Rattle.arraystring_base.specs.declared.error.Error.{Error}
use Rattle.arraystring_core.specs.Stored.{StringView}
use Rattle.arraystring_core.specs.Edits.{first_character, last_character, all_but_last}

-- `left`: the characters that are left, which fit the capacity (`drain_text_fits`). The other two are there so that the fields of a `Drain`
-- can be computed from this view, and no contract names them. `yielded`: the characters that were given from the front. `spare`: the
-- `spare` of the removed string (`StringView`)
pub record DrainView : Type 0 where
  pub left : List ℕ
  pub yielded : List ℕ
  pub spare : List ℕ

-- the view of a drain of the string `removed` after `next` gave the characters before the boundary i, so that those from i on are left
abbrev pub drain_advanced_to : StringView → ℕ → DrainView
drain_advanced_to removed i = record { left = back removed.text i; yielded = front removed.text i; spare = removed.spare }

-- the removed string without what was given from the back: its text is what was given from the front, and then what is left
abbrev pub removed_string_without_backs : DrainView → StringView
removed_string_without_backs d = record { text = d.yielded ++ d.left; spare = d.spare }

-- the result of `drain`, as `Makes` takes it: the `Drain` is replaced by the characters that are left in it
abbrev pub drain_result_as_text : Result DrainView Error → Result (List ℕ) Error
drain_result_as_text (Ok d) = Ok d.left
drain_result_as_text (Err e) = Err e

-- the end of a drain from which a call takes a character: `Front` for `next`, `Back` for `next_back`
pub data DrainEnd : Type 0 where
  Front : DrainEnd
  Back : DrainEnd

-- the result of a walk over a drain, which is a row of calls of `next` and `next_back`: the characters from the front (`fronts`) and from
-- the back (`backs`), each in the order in which they were given, and those that are left (`left`)
pub record WalkResult : Type 0 where
  pub fronts : List ℕ
  pub left : List ℕ
  pub backs : List ℕ

-- the walk w, with one more character, if there is one, put first among those from the front
abbrev pub prepend_to_fronts : Option ℕ → WalkResult → WalkResult
prepend_to_fronts None w = w
prepend_to_fronts (Some c) w = record { fronts = c ∷ w.fronts; left = w.left; backs = w.backs }

-- the walk w, with one more character, if there is one, put first among those from the back
abbrev pub prepend_to_backs : Option ℕ → WalkResult → WalkResult
prepend_to_backs None w = w
prepend_to_backs (Some c) w = record { fronts = w.fronts; left = w.left; backs = c ∷ w.backs }

-- the result of a walk over the characters t that calls `next` for each `Front` and `next_back` for each `Back`, in the order of the list.
-- Each call takes a character, as long as one is left (`ends_give_each_once`)
abbrev pub walk_from_ends : List DrainEnd → List ℕ → WalkResult
walk_from_ends [] t = record { fronts = []; left = t; backs = [] }
walk_from_ends (Front ∷ ends) t = prepend_to_fronts (first_character t) (walk_from_ends ends (drop 1 t))
walk_from_ends (Back ∷ ends) t = prepend_to_backs (last_character t) (walk_from_ends ends (all_but_last t))
