use Rattle.std.proofs.Common.{◌∙◌, ap, sym, map}
use Rattle.std.specs.FinMap as finite
use Rattle.std.proofs.lemmas.List.{length-map}
use Rattle.bounded_records.specs.UserTexts.{names_of, texts}
use Rattle.bounded_records.specs.DirectoryWalks.{texts_of_borrowed_user}
use Rattle.bounded_records.proofs.MapLemmas.{keys_users, len_users, values_users}
use Rattle.bounded_records.proofs.OwnNameLemmas.{names-users, users-found}
use Rattle.bounded_records.proofs.WalkLemmas.{in_order, in_reverse, copies_in_order}
use Rattle.bounded_records.proofs.directory.Directory.users.Goals as goal

pub returns-clause-users : goal.returns-clause-users
returns-clause-users c =
    ap (map texts) c.values.ensures.rest ∙ sym (values_users _ c.values.ensures.ordered)
    ∙ ap finite.values c.self.view_is

pub returns-clause-names : goal.returns-clause-names
returns-clause-names c =
    ap (λ users. names_of (map texts users)) c.values.ensures.rest ∙ names-users c.self.inside.users c.values.ensures.ordered c.self.invariant
    ∙ sym (keys_users _ c.values.ensures.ordered) ∙ ap finite.keys c.self.view_is

pub returns-clause-found : goal.returns-clause-found
returns-clause-found c =
    rw (c.values.ensures.rest, ← c.self.view_is) (users-found c.self.inside.users c.values.ensures.ordered c.self.invariant)

pub returns-clause-len : goal.returns-clause-len
returns-clause-len c =
    length-map c.values.result texts ∙ c.values.ensures.len ∙ sym (len_users _ c.values.ensures.ordered)
    ∙ ap finite.len c.self.view_is

pub returns-clause-runs : goal.returns-clause-runs
returns-clause-runs c = in_order texts_of_borrowed_user

pub returns-clause-runs_back : goal.returns-clause-runs_back
returns-clause-runs_back c = in_reverse texts_of_borrowed_user

pub returns-clause-copies : goal.returns-clause-copies
returns-clause-copies c = copies_in_order texts
