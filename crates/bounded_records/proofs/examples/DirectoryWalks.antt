-- Examples of what iterators over a directory give. That a run of calls gives so is a clause of each: here it is shown of names and
-- of users, and read at a run from two items that are left.
use Rattle.std.proofs.Common.{◌≡◌, ℕ, ◌<◌, true, List, [], ◌∷◌, map, length, Some, refl, subst, ◌∙◌, Bor, codes, option_map, slice_index_or, lit<, ◌-◌}
use Rattle.std.specs.Iterator.{YieldsFirstBy, YieldsLastBy}
use Rattle.std.specs.Iterator.Runs.{Run}
use Rattle.arraystring.specs.Stored.{StringView, view_with_empty_spare}
use Rattle.bounded_records.proofs.WalkLemmas.{in_order, in_reverse, copies_in_order}
use Rattle.bounded_records.specs.UserTexts.{texts}
use Rattle.bounded_records.specs.DirectoryWalks.{GivesInOrder, GivesInReverse, GivesCopiesInOrder, text_of_username, text_of_borrowed_username, texts_of_borrowed_user}

text_of_username-of_a_string : text_of_username (view_with_empty_spare (codes "ann")) ≡ codes "ann"
text_of_username-of_a_string = refl

text_of_borrowed_username-of_a_reference : text_of_borrowed_username (record { ref_ptr = (0, 0); now = view_with_empty_spare (codes "ann") }) ≡ codes "ann"
text_of_borrowed_username-of_a_reference = refl

texts_of_borrowed_user-of_a_reference : texts_of_borrowed_user (record {
  ref_ptr = (0, 0);
  now = record { username = view_with_empty_spare (codes "ann"); role = view_with_empty_spare (codes "admin") };
}) ≡ (codes "ann", codes "admin")
texts_of_borrowed_user-of_a_reference = refl

-- a run of calls of `next`, and one of `next_back`, over usernames
abbrev FrontRun : Type 0
FrontRun = Run (YieldsFirstBy text_of_borrowed_username (λ left. left))

abbrev BackRun : Type 0
BackRun = Run (YieldsLastBy text_of_borrowed_username (λ left. left))

abbrev two : List (List ℕ)
two = codes "ann" ∷ codes "bob" ∷ []

GivesInOrder-names_and_users : GivesInOrder text_of_borrowed_username × GivesInOrder texts_of_borrowed_user
GivesInOrder-names_and_users = (in_order text_of_borrowed_username, in_order texts_of_borrowed_user)

GivesInOrder-all_of_two : GivesInOrder text_of_borrowed_username → (run : FrontRun) → run.from ≡ two → run.whole ≡ true
    → map text_of_borrowed_username run.items ≡ codes "ann" ∷ codes "bob" ∷ []
GivesInOrder-all_of_two gives run from whole = (gives run run.seen).4 whole ∙ from

GivesInOrder-the_first_of_two : GivesInOrder text_of_borrowed_username → (run : FrontRun) → run.from ≡ two → 0 < run.len
    → option_map text_of_borrowed_username (run.at 0) ≡ Some (codes "ann")
GivesInOrder-the_first_of_two gives run from some = rw from at ((gives run run.seen).2 0 [] some)

GivesInReverse-names_and_users : GivesInReverse text_of_borrowed_username × GivesInReverse texts_of_borrowed_user
GivesInReverse-names_and_users = (in_reverse text_of_borrowed_username, in_reverse texts_of_borrowed_user)

GivesInReverse-all_of_two : GivesInReverse text_of_borrowed_username → (run : BackRun) → run.from ≡ two → run.whole ≡ true
    → map text_of_borrowed_username run.items ≡ codes "bob" ∷ codes "ann" ∷ []
GivesInReverse-all_of_two gives run from whole = rw from at ((gives run run.seen).4 whole)

GivesInReverse-the_first_of_two : GivesInReverse text_of_borrowed_username → (run : BackRun) → run.from ≡ two → 0 < run.len
    → option_map text_of_borrowed_username (run.at 0) ≡ Some (codes "bob")
GivesInReverse-the_first_of_two gives run from some =
    subst (λ left. 1 < length left → length left - 1 - 1 < run.len
    → option_map text_of_borrowed_username (run.at (length left - 1 - 1)) ≡ Some (slice_index_or left 1 []))
    from ((gives run run.seen).2 1 []) (lit< tt) some

GivesCopiesInOrder-names_and_users : GivesCopiesInOrder text_of_username × GivesCopiesInOrder texts
GivesCopiesInOrder-names_and_users = (copies_in_order text_of_username, copies_in_order texts)

GivesCopiesInOrder-all_of_two : GivesCopiesInOrder text_of_username
    → (run : Run (YieldsFirstBy (λ (item : Bor StringView). text_of_username item.now) (λ left. left))) → run.from ≡ two → run.whole ≡ true
    → map text_of_username (map (λ item. item.now) run.items) ≡ codes "ann" ∷ codes "bob" ∷ []
GivesCopiesInOrder-all_of_two gives run from whole = gives run run.seen whole ∙ from
