use Rattle.std.proofs.Common.{◌≡◌, ◌∙◌, ◌+◌, ap, sym, is_some, if◌then◌else◌}
use Rattle.std.specs.FinMap as finite
use Rattle.bounded_records.specs.UserTexts.{texts}
use Rattle.bounded_records.proofs.MapLemmas.{users_of, insert_users, insert_same, get_others, len_users}
use Rattle.bounded_records.proofs.OwnNameLemmas.{own-found, own-insert, own-map}
use Rattle.bounded_records.proofs.directory.Directory.insert.Goals as goal

pub returns-clause-own : goal.returns-clause-own
returns-clause-own c =
    own-found _ c.self.invariant _ _ c.in_ok-insert.ensures.old

pub returns-clause-others : goal.returns-clause-others
returns-clause-others c name ne =
    let user = c.args.user in
    let after : users_of c.insert.new.self.entries ≡ finite.insert c.args.self.now user.username.text (texts user) =
    insert_users _ _ user.username user c.in_ok-insert.ensures.updates.0
    ∙ ap (λ d. finite.insert d user.username.text (texts user)) c.self.view_is in
    ap (λ d. finite.get d name) after ∙ get_others _ _ _ name ne

pub returns-clause-len : goal.returns-clause-len
returns-clause-len c =
    len_users _ c.insert.ensures.ordered ∙ c.in_ok-insert.ensures.len
    ∙ ap (λ n. n + (if is_some c.in_ok-insert.field-0 then 0 else 1))
    (sym (len_users _ c.insert.ensures.was_ordered) ∙ ap finite.len c.self.view_is)

pub returns-clause-same : goal.returns-clause-same
returns-clause-same c is =
    let user = c.args.user in
    insert_users _ _ user.username user c.in_ok-insert.ensures.updates.0
    ∙ ap (λ d. finite.insert d user.username.text (texts user)) c.self.view_is
    ∙ insert_same c.args.self.now user.username.text (texts user) is

pub invariant_of-self-2 : goal.invariant_of-self-2
invariant_of-self-2 c =
    let user = c.args.user in
    own-map _ _ (insert_users _ _ user.username user c.in_ok-insert.ensures.updates.0)
    (own-insert _ c.self.invariant _ _)
