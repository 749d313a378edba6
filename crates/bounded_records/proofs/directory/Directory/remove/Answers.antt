use Rattle.std.proofs.Common.{◌≡◌, ◌∙◌, ◌+◌, ap, sym, is_some, if◌then◌else◌}
use Rattle.std.specs.FinMap as finite
use Rattle.std.specs.Option.{option_map}
use Rattle.bounded_records.specs.UserTexts.{texts}
use Rattle.bounded_records.proofs.MapLemmas.{users_of, get_users, remove_users, get_removed, get_kept, len_removed}
use Rattle.bounded_records.proofs.OwnNameLemmas.{own-found, own-map, own-remove}
use Rattle.bounded_records.proofs.directory.Directory.remove.Goals as goal

pub invariant_of-self : goal.invariant_of-self
invariant_of-self c =
    own-map _ _ (remove_users _ _ _ c.remove.ensures.updates.0)
    (own-remove _ c.self.invariant _)

pub returns-clause-removed : goal.returns-clause-removed
returns-clause-removed c =
    let name = c.args.username.now.text in
    ap (option_map texts) c.remove.ensures.value ∙ sym (get_users c.self.inside.users.entries name)
    ∙ ap (λ d. finite.get d name) c.self.view_is

pub returns-clause-own : goal.returns-clause-own
returns-clause-own c =
    own-found _ c.self.invariant _ _ c.remove.ensures.value

pub returns-clause-after : goal.returns-clause-after
returns-clause-after c =
    let name = c.args.username.now.text in
    remove_users _ _ _ c.remove.ensures.updates.0
    ∙ ap (λ d. finite.remove d name) c.self.view_is

pub returns-clause-gone : goal.returns-clause-gone
returns-clause-gone c =
    let name = c.args.username.now.text in
    ap (λ d. finite.get d name) (remove_users _ _ _ c.remove.ensures.updates.0)
    ∙ get_removed _ _

pub returns-clause-others : goal.returns-clause-others
returns-clause-others c other ne =
    ap (λ d. finite.get d other) (remove_users _ _ _ c.remove.ensures.updates.0)
    ∙ get_kept _ _ other ne ∙ ap (λ d. finite.get d other) c.self.view_is

pub returns-clause-len : goal.returns-clause-len
returns-clause-len c =
    let name = c.args.username.now.text in
    let found : option_map texts c.remove.result ≡ finite.get (users_of c.self.inside.users.entries) name =
    ap (option_map texts) c.remove.ensures.value ∙ sym (get_users c.self.inside.users.entries name) in
    ap (λ d. finite.len d + (if is_some c.remove.result then 1 else 0))
    (remove_users _ _ _ c.remove.ensures.updates.0)
    ∙ len_removed _ _ _ found ∙ ap finite.len c.self.view_is
