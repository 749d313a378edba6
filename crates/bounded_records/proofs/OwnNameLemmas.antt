-- Each user stands under its own username.
use Rattle.std.proofs.Common.{◌≡◌, ℕ, List, [], ◌∷◌, map, Bor, Option, Some, None, IsTrue, is_some, refl, sym, ap, ◌∙◌}
use Rattle.std.specs.Prelude.{IfSome}
use Rattle.std.specs.BTreeMap.{BTreeMap, IsOrdered}
use Rattle.std.specs.Cmp.{IsTotalOrder}
use Rattle.std.specs.Cmp.Lexicographic.{slice_cmp, nat_list_cmp_total}
use Rattle.std.specs.FinMap as finite
use Rattle.std.specs.List.{All}
use Rattle.std.specs.Map.{keys_of, values_of, lookup}
use Rattle.std.specs.Option.{option_map, option_copied}
use Rattle.std.specs.Ordering.{nat_cmp, eq_by_cmp}
use Rattle.std.proofs.lemmas.Bool.{cond_both}
use Rattle.std.proofs.lemmas.List.Elements.{All-head, All-tail, All-map, All-weaker}
use Rattle.std.proofs.lemmas.Map.Lookups.{exact_bytes}
use Rattle.std.proofs.lemmas.Map.Views.{All-found, tells_apart}
use Rattle.arraystring.specs.Stored.{StringView}
use Rattle.arraystring.proofs.MapLaws.{has_text}
use Rattle.bounded_records.specs.declared.user.User.{User}
use Rattle.bounded_records.specs.UserTexts.{AreUnderTheirNames, names_of, texts}
use Rattle.bounded_records.proofs.MapLemmas.{users_of, key_texts, get_users}

module _ (m n : finite.FinMap (slice_cmp nat_cmp) (List ℕ × List ℕ)) where
  pub own-map : n ≡ m → AreUnderTheirNames m → AreUnderTheirNames n
  own-map is own q = rw is (own q)

-- in a new map
pub own-new : (es : List (StringView × User)) → es ≡ [] → AreUnderTheirNames (users_of es)
own-new es is q = rw (is, finite.get-empty) tt

-- after an insertion and a removal
module _ (m : finite.FinMap (slice_cmp nat_cmp) (List ℕ × List ℕ)) (own : AreUnderTheirNames m) (t : List ℕ) where
  pub own-insert : (r : List ℕ) → AreUnderTheirNames (finite.insert m t (t, r))
  own-insert r q =
      rw (finite.get-insert nat_list_cmp_total m t (t, r) q)
      (cond_both (eq_by_cmp (slice_cmp nat_cmp) q t) _ _ (λ u. IfSome u (λ u. u.0 ≡ q))
      (λ e. sym (tells_apart exact_bytes q t e)) (λ e. own q))

  pub own-remove : AreUnderTheirNames (finite.remove m t)
  own-remove q =
      rw (finite.get-remove nat_list_cmp_total m t q)
      (cond_both (eq_by_cmp (slice_cmp nat_cmp) q t) _ _ (λ u. IfSome u (λ u. u.0 ≡ q)) (λ e. tt) (λ e. own q))

-- a user that was found has the name that was given
module _ (es : List (StringView × User)) (own : AreUnderTheirNames (users_of es)) (q : List ℕ) where
  pub own-found : (o : Option User) → o ≡ lookup (has_text q) es → IfSome o (λ u. u.username.text ≡ q)
  own-found None is = tt
  own-found (Some u) is = rw (get_users es q, ← is) at (own q)

-- and so has a borrowed one
pub own-got : (o : Option (Bor User)) (q : List ℕ) → IfSome (option_copied o) (λ u. u.username.text ≡ q) → IfSome o (λ u. u.now.username.text ≡ q)
own-got None q own = tt
own-got (Some u) q own = own

-- the users of a map, one after the other
stored-total : IsTotalOrder (λ (a b : StringView). slice_cmp nat_cmp a.text b.text)
stored-total = record {
  antisymm = λ a b. nat_list_cmp_total.antisymm a.text b.text;
  trans = λ a b d. nat_list_cmp_total.trans a.text b.text d.text;
  congr = λ a b d. nat_list_cmp_total.congr a.text b.text d.text;
}

same-name : (es : List (StringView × User)) → All (λ e. e.1.username.text ≡ e.0.text) es → names_of (map texts (values_of es)) ≡ key_texts (keys_of es)
same-name [] is = refl
same-name (e ∷ es) is =
    let head = All-head (λ e. e.1.username.text ≡ e.0.text) e es is in
    let tail = same-name es (All-tail (λ e. e.1.username.text ≡ e.0.text) e es is) in
    λ i. head i ∷ tail i

-- in what stands where, of each entry of a map
abbrev IsFound : List (StringView × User) → StringView × User → Type 0
IsFound es e = finite.get (users_of es) e.0.text ≡ Some (texts e.1)

own-entry : (es : List (StringView × User)) → AreUnderTheirNames (users_of es) → (e : StringView × User) → IsFound es e → e.1.username.text ≡ e.0.text
own-entry es own e found = rw found at (own e.0.text)

module _ (m : BTreeMap StringView User) (sorted : IsOrdered (λ a b. slice_cmp nat_cmp a.text b.text) m) where
  keys-found : All (IsFound m.entries) m.entries
  keys-found =
      All-weaker (λ e. lookup (has_text e.0.text) m.entries ≡ Some e.1) (IsFound m.entries)
      (λ e found. get_users m.entries e.0.text ∙ ap (option_map texts) found) m.entries (All-found stored-total m sorted)

  pub names-found : All (λ name. IsTrue (finite.contains_key (users_of m.entries) name)) (key_texts (keys_of m.entries))
  names-found =
      All-map (λ name. IsTrue (finite.contains_key (users_of m.entries) name)) (λ k. k.text) (keys_of m.entries)
      (All-map (λ (k : StringView). IsTrue (finite.contains_key (users_of m.entries) k.text)) (λ e. e.0) m.entries
      (All-weaker (IsFound m.entries) (λ e. IsTrue (finite.contains_key (users_of m.entries) e.0.text)) (λ e found. ap is_some found) m.entries keys-found))

  module _ (own : AreUnderTheirNames (users_of m.entries)) where
    pub names-users : names_of (map texts (values_of m.entries)) ≡ key_texts (keys_of m.entries)
    names-users =
        same-name m.entries
        (All-weaker (IsFound m.entries) (λ e. e.1.username.text ≡ e.0.text) (own-entry m.entries own) m.entries keys-found)

    pub users-found : All (λ u. finite.get (users_of m.entries) u.0 ≡ Some u) (map texts (values_of m.entries))
    users-found =
        All-map (λ u. finite.get (users_of m.entries) u.0 ≡ Some u) texts (values_of m.entries)
        (All-map (λ (u : User). finite.get (users_of m.entries) u.username.text ≡ Some (texts u)) (λ e. e.1) m.entries
        (All-weaker (IsFound m.entries) (λ e. finite.get (users_of m.entries) e.1.username.text ≡ Some (texts e.1))
        (λ e found. ap (finite.get (users_of m.entries)) (own-entry m.entries own e found) ∙ found) m.entries keys-found))
