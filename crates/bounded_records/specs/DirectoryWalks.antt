-- An iterator over a directory gives what is left, in order by `next`, and in reverse by `next_back`.
use Rattle.std.specs.Prelude.{◌≡◌, ℕ, true, List, map}
use Rattle.std.specs.Iterator.{YieldsFirstBy, YieldsLastBy}
use Rattle.std.specs.Iterator.Runs.{EveryRun, ItemsMapTo, ItemsMapToReversed}
use Rattle.std.specs.Borrow.{Bor}
use Rattle.arraystring.specs.Stored.{StringView}
use Rattle.bounded_records.specs.declared.user.User.{User}
use Rattle.bounded_records.specs.UserTexts.{texts}

module _ {A B : Type 0} (view : A → B) where
  -- calls of `next` in a row give the first items of those that were left, in order, and all of them if the last call gave `None`. In
  -- contracts what was left is a list of what `view` makes of the items
  abbrev pub GivesInOrder : Type 0
  GivesInOrder = EveryRun (YieldsFirstBy view (λ left. left)) (λ run. ItemsMapTo run view run.from)

  -- calls of `next_back` in a row give the last of the items that were left, in reverse, and all of them if the last call gave `None`. The
  -- list of what was left has, for each item, what `view` makes of it
  abbrev pub GivesInReverse : Type 0
  GivesInReverse = EveryRun (YieldsLastBy view (λ left. left)) (λ run. ItemsMapToReversed run view run.from)

module _ {A B : Type 0} (view : A → B) where
  -- if `next` is called until it returns `None`, the items that it gave are all that was left, in order. Each item is copied out of its
  -- reference and seen by `view`
  abbrev pub GivesCopiesInOrder : Type 0
  GivesCopiesInOrder =
      EveryRun (YieldsFirstBy (λ (item : Bor A). view item.now) (λ left. left))
      (λ run. run.whole ≡ true → map view (map (λ item. item.now) run.items) ≡ run.from)

-- the text of a username
abbrev pub text_of_username : StringView → List ℕ
text_of_username name = name.text

-- the text of a borrowed username
abbrev pub text_of_borrowed_username : Bor StringView → List ℕ
text_of_borrowed_username name = name.now.text

-- the texts of a borrowed user
abbrev pub texts_of_borrowed_user : Bor User → List ℕ × List ℕ
texts_of_borrowed_user user = texts user.now
