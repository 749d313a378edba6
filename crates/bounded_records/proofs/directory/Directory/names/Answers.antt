use Rattle.std.proofs.Common.{◌∙◌, ap, sym}
use Rattle.std.specs.FinMap as finite
use Rattle.std.proofs.lemmas.List.{length-map}
use Rattle.bounded_records.specs.DirectoryWalks.{text_of_borrowed_username, text_of_username}
use Rattle.arraystring.proofs.MapLaws.{keys-ascend}
use Rattle.bounded_records.proofs.MapLemmas.{len_users}
use Rattle.bounded_records.proofs.OwnNameLemmas.{names-found}
use Rattle.bounded_records.proofs.WalkLemmas.{in_order, in_reverse, copies_in_order}
use Rattle.bounded_records.proofs.directory.Directory.names.Goals as goal

pub returns-clause-ascending : goal.returns-clause-ascending
returns-clause-ascending c = rw c.keys.ensures.rest (keys-ascend _ c.keys.ensures.ordered)

pub returns-clause-found : goal.returns-clause-found
returns-clause-found c = rw (c.keys.ensures.rest, ← c.self.view_is) (names-found c.self.inside.users c.keys.ensures.ordered)

pub returns-clause-len : goal.returns-clause-len
returns-clause-len c =
    length-map c.keys.result (λ name. name.text) ∙ c.keys.ensures.len ∙ sym (len_users _ c.keys.ensures.ordered)
    ∙ ap finite.len c.self.view_is

pub returns-clause-runs : goal.returns-clause-runs
returns-clause-runs c = in_order text_of_borrowed_username

pub returns-clause-runs_back : goal.returns-clause-runs_back
returns-clause-runs_back c = in_reverse text_of_borrowed_username

pub returns-clause-copies : goal.returns-clause-copies
returns-clause-copies c = copies_in_order text_of_username
