-- Examples of users as contracts see them.
use Rattle.std.proofs.Common.{◌≡◌, ℕ, List, [], ◌∷◌, IfSome, refl, sym, codes, subst, arith}
use Rattle.std.specs.Cmp.Lexicographic.{slice_cmp, nat_list_cmp_total}
use Rattle.std.specs.FinMap as finite
use Rattle.std.specs.Ordering.{nat_cmp, eq_by_cmp}
use Rattle.std.proofs.lemmas.Bool.{cond_both}
use Rattle.std.proofs.lemmas.Map.Lookups.{exact_bytes}
use Rattle.std.proofs.lemmas.Map.Views.{tells_apart}
use Rattle.arraystring.specs.Stored.{view_with_empty_spare}
use Rattle.bounded_records.specs.UserTexts.{texts, names_of, entry_texts, AreUnderTheirNames}
use Rattle.bounded_records.specs.declared.user.User.{User}

abbrev ann : User
ann = record { username = view_with_empty_spare (codes "ann"); role = view_with_empty_spare (codes "admin") }

texts-username_first : texts ann ≡ (codes "ann", codes "admin")
texts-username_first = refl

names_of-none : names_of [] ≡ []
names_of-none = refl

names_of-in_order : names_of ((codes "bob", codes "a") ∷ (codes "ann", codes "b") ∷ []) ≡ codes "bob" ∷ codes "ann" ∷ []
names_of-in_order = refl

entry_texts-key_and_user : entry_texts ((view_with_empty_spare (codes "key"), ann) ∷ []) ≡ (codes "key", (codes "ann", codes "admin")) ∷ []
entry_texts-key_and_user = refl

AreUnderTheirNames-no_user : AreUnderTheirNames finite.empty
AreUnderTheirNames-no_user name = rw finite.get-empty tt

-- `ann` with the role `admin`, under a key
abbrev her : List ℕ × List ℕ
her = (codes "ann", codes "admin")

abbrev under : List ℕ → finite.FinMap (slice_cmp nat_cmp) (List ℕ × List ℕ)
under key = finite.insert finite.empty key her

AreUnderTheirNames-own_name : AreUnderTheirNames (under (codes "ann"))
AreUnderTheirNames-own_name name =
    rw (finite.get-insert nat_list_cmp_total finite.empty (codes "ann") her name, finite.get-empty)
    (cond_both (eq_by_cmp (slice_cmp nat_cmp) name (codes "ann")) _ _ (λ u. IfSome u (λ u. u.0 ≡ name))
    (λ e. sym (tells_apart exact_bytes name (codes "ann") e)) (λ e. tt))

AreUnderTheirNames-another_name : AreUnderTheirNames (under (codes "bob")) → ⊥
AreUnderTheirNames-another_name are =
    let is : codes "ann" ≡ codes "bob" =
    subst (λ found. IfSome found (λ u. u.0 ≡ codes "bob"))
    (finite.get-insert nat_list_cmp_total finite.empty (codes "bob") her (codes "bob")) (are (codes "bob")) in
    grind arith
