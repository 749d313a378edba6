use Rattle.std.proofs.Common.{◌≡◌, ◌∙◌, ap, sym, Some, IsSome, refl, subst}
use Rattle.std.specs.FinMap as finite
use Rattle.std.specs.Option.{option_map}
use Rattle.bounded_records.specs.declared.user.User.{User}
use Rattle.bounded_records.specs.UserTexts.{texts}
use Rattle.bounded_records.proofs.MapLemmas.{users_of, get_users, insert_users, get_inserted, get_others, keys_users, key_texts}
use Rattle.bounded_records.proofs.OwnNameLemmas.{own-found, own-map, own-insert}
use Rattle.bounded_records.proofs.directory.Directory.set_role.Goals as goal

pub returns-in_err-user-clause-old : goal.returns-in_err-user-clause-old
returns-in_err-user-clause-old c =
    ap (option_map (λ old. (c.args.username.now.text, old.text))) c.from_residual.ensures
    ∙ ap (option_map texts) c.in_err-user.ensures.value ∙ sym (get_users _ c.args.username.now.text)
    ∙ ap (λ d. finite.get d c.args.username.now.text) c.self.view_is

-- the map once the role is written: the user stands under the name that was given
written : (c : goal.After-self-2-1) → users_of (c.get_mut.follows.lender record { username = c.in_ok-user.user.now.username; role = c.replace.new.dest }).entries
    ≡ finite.insert (users_of c.self.inside.users.entries) c.args.username.now.text (c.args.username.now.text, c.args.role.text)
written c =
    let name = c.args.username.now.text in
    let user : User = record { username = c.in_ok-user.user.now.username; role = c.replace.new.dest } in
    let own : c.in_ok-user.user.now.username.text ≡ name =
    own-found _ c.self.invariant _ (Some c.in_ok-user.user.now) c.in_ok-user.ensures.value in
    insert_users _ _ c.args.username.now user
    ((c.get_mut.follows.holds user).3 (subst IsSome c.in_ok-user.ensures.value refl)).0
    ∙ (λ i. finite.insert (users_of c.self.inside.users.entries) name (own i, (c.replace.ensures.after i).text))

pub invariant_of-self-2 : goal.invariant_of-self-2
invariant_of-self-2 c =
    own-map _ _ (written c) (own-insert _ c.self.invariant _ _)

pub returns-clause-old : goal.returns-clause-old
returns-clause-old c =
    let name = c.args.username.now.text in
    let own : c.in_ok-user.user.now.username.text ≡ name =
    own-found _ c.self.invariant _ (Some c.in_ok-user.user.now) c.in_ok-user.ensures.value in
    (λ i. Some (sym own i, (c.replace.ensures.value i).text))
    ∙ ap (option_map texts) c.in_ok-user.ensures.value ∙ sym (get_users _ name)
    ∙ ap (λ d. finite.get d name) c.self.view_is

pub returns-clause-after : goal.returns-clause-after
returns-clause-after c =
    let name = c.args.username.now.text in
    written c ∙ ap (λ d. finite.insert d name (name, c.args.role.text)) c.self.view_is

pub returns-clause-found : goal.returns-clause-found
returns-clause-found c =
    let name = c.args.username.now.text in
    ap (λ d. finite.get d name) (written c) ∙ get_inserted _ _ _

pub returns-clause-others : goal.returns-clause-others
returns-clause-others c other ne =
    ap (λ d. finite.get d other) (written c) ∙ get_others _ _ _ other ne
    ∙ ap (λ d. finite.get d other) c.self.view_is

pub returns-clause-names : goal.returns-clause-names
returns-clause-names c =
    let user : User = record { username = c.in_ok-user.user.now.username; role = c.replace.new.dest } in
    let holds = c.get_mut.follows.holds user in
    keys_users _ holds.4 ∙ ap key_texts holds.1
    ∙ sym (keys_users _ c.get_mut.ensures.ordered) ∙ ap finite.keys c.self.view_is
