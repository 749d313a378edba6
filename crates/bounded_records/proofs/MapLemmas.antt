-- A map from strings to users, read by the texts of both.
use Rattle.std.proofs.Common.{◌≡◌, ◌≢◌, ℕ, List, [], ◌∷◌, map, Bool, true, false, cond, Option, Some, None, length, zero, suc, ◌+◌, ◌<◌, is_some, if◌then◌else◌, arith, true≢false, refl, sym, ap, ◌∙◌}
use Rattle.std.specs.List.Sorted.{IsStrictlySortedBy}
use Rattle.std.specs.Option.{option_map}
use Rattle.std.specs.Ordering.{nat_cmp, eq_by_cmp}
use Rattle.std.specs.Cmp.{eq_by_cmp_equiv}
use Rattle.std.specs.Cmp.Lexicographic.{slice_cmp, nat_list_cmp_total}
use Rattle.std.specs.Map.{lookup, keys_of, values_of}
use Rattle.std.specs.FinMap as finite
use Rattle.std.specs.FinMap.{find, put}
use Rattle.std.proofs.lemmas.Bool.{false_from_ne_true, cond_both}
use Rattle.std.proofs.lemmas.List.{nil_from_length, length-map}
use Rattle.std.proofs.lemmas.Map.Lookups.{exact_bytes}
use Rattle.std.proofs.lemmas.Map.Views.{tells_apart}
use Rattle.arraystring.specs.Stored.{StringView}
use Rattle.arraystring.proofs.MapLaws.{has_text, updated-text}
use Rattle.bounded_records.specs.declared.user.User.{User}
use Rattle.bounded_records.specs.UserTexts.{entry_texts, texts}

abbrev Users : Type 0
Users = finite.FinMap (slice_cmp nat_cmp) (List ℕ × List ℕ)

-- the map from the texts
abbrev pub users_of : List (StringView × User) → Users
users_of es = finite.from_entries (entry_texts es)

texts-cond : (b : Bool) (x y : Option User) → option_map texts (cond b x y) ≡ cond b (option_map texts x) (option_map texts y)
texts-cond true x y = refl
texts-cond false x y = refl

find-entry_texts : (es : List (StringView × User)) (q : List ℕ) → find (slice_cmp nat_cmp) q (entry_texts es) ≡ option_map texts (lookup (has_text q) es)
find-entry_texts [] q = refl
find-entry_texts (e ∷ es) q =
    cc (find-entry_texts es q, texts-cond (has_text q e.0) (Some e.1) (lookup (has_text q) es))

pub get_users : (es : List (StringView × User)) (q : List ℕ) → finite.get (users_of es) q ≡ option_map texts (lookup (has_text q) es)
get_users es q = finite.get-from_entries nat_list_cmp_total (entry_texts es) q ∙ find-entry_texts es q

-- what is found under each text after a change to what is under one
updated-users : (old new : List (StringView × User)) (t : List ℕ) (value : Option User)
    → ((q : StringView) → lookup (has_text q.text) new ≡ cond (has_text t q) value (lookup (has_text q.text) old))
    → (q : List ℕ) → finite.get (users_of new) q
    ≡ cond (eq_by_cmp (slice_cmp nat_cmp) q t) (option_map texts value) (finite.get (users_of old) q)
updated-users old new t value is q = cc (
  get_users new q,
  updated-text old new t value is q,
  texts-cond (eq_by_cmp (slice_cmp nat_cmp) t q) value (lookup (has_text q) old),
  (eq_by_cmp_equiv nat_list_cmp_total).symm t q,
  get_users old q,
)

-- one user more
pub insert_users : (old new : List (StringView × User)) (k : StringView) (u : User)
    → ((q : StringView) → lookup (has_text q.text) new ≡ cond (has_text k.text q) (Some u) (lookup (has_text q.text) old))
    → users_of new ≡ finite.insert (users_of old) k.text (texts u)
insert_users old new k u is =
    finite.same_map nat_list_cmp_total exact_bytes _ _
    (λ q. updated-users old new k.text (Some u) is q
    ∙ sym (finite.get-insert nat_list_cmp_total (users_of old) k.text (texts u) q))

-- one user less
pub remove_users : (old new : List (StringView × User)) (t : List ℕ)
    → ((q : StringView) → lookup (has_text q.text) new ≡ cond (has_text t q) None (lookup (has_text q.text) old))
    → users_of new ≡ finite.remove (users_of old) t
remove_users old new t is =
    finite.same_map nat_list_cmp_total exact_bytes _ _
    (λ q. updated-users old new t None is q ∙ sym (finite.get-remove nat_list_cmp_total (users_of old) t q))

-- what stands under a text afterwards
module _ (m : Users) (t : List ℕ) (u : List ℕ × List ℕ) where
  pub get_inserted : finite.get (finite.insert m t u) t ≡ Some u
  get_inserted = rw (finite.get-insert nat_list_cmp_total m t u t, (eq_by_cmp_equiv nat_list_cmp_total).refl t) refl

  pub get_others : (q : List ℕ) → q ≢ t → finite.get (finite.insert m t u) q ≡ finite.get m q
  get_others q ne =
      rw (finite.get-insert nat_list_cmp_total m t u q, false_from_ne_true _ (λ is. ne (tells_apart exact_bytes q t is))) refl

  -- inserting what is there already changes nothing
  pub insert_same : finite.get m t ≡ Some u → finite.insert m t u ≡ m
  insert_same is =
      finite.same_map nat_list_cmp_total exact_bytes _ _
      (λ q. rw (finite.get-insert nat_list_cmp_total m t u q)
      (cond_both (eq_by_cmp (slice_cmp nat_cmp) q t) _ _ (λ o. o ≡ finite.get m q)
      (λ same. rw (tells_apart exact_bytes q t same) (sym is)) (λ other. refl)))

-- only the empty map has no user
pub no_users : (es : List (StringView × User)) → users_of es ≡ finite.empty → es ≡ []
no_users [] is = refl
no_users (e ∷ es) is =
    absurd (cc (
      get_inserted (users_of es) e.0.text (texts e.1),
      is,
      finite.get-empty {X = List ℕ × List ℕ} (slice_cmp nat_cmp) e.0.text,
    ))

module _ (m : Users) (t : List ℕ) where
  pub get_removed : finite.get (finite.remove m t) t ≡ None
  get_removed = rw (finite.get-remove nat_list_cmp_total m t t, (eq_by_cmp_equiv nat_list_cmp_total).refl t) refl

  pub get_kept : (q : List ℕ) → q ≢ t → finite.get (finite.remove m t) q ≡ finite.get m q
  get_kept q ne =
      rw (finite.get-remove nat_list_cmp_total m t q, false_from_ne_true _ (λ is. ne (tells_apart exact_bytes q t is))) refl

  has_one : (n : ℕ) → finite.len m ≡ n → finite.contains_key m t ≡ true → 0 < n
  has_one zero none is =
      absurd (true≢false (sym is ∙ ap (λ d. is_some (finite.get d t)) (finite.empty_of_len m none) ∙ ap is_some (finite.get-empty _ t)))
  has_one (suc n) some is = omega arith

  -- a removal takes one if there is one
  pub len_removed : (o : Option User) → option_map texts o ≡ finite.get m t → finite.len (finite.remove m t) + (if is_some o then 1 else 0) ≡ finite.len m
  len_removed None is =
      let none : finite.contains_key m t ≡ false = ap is_some (sym is) in
      omega (arith, rw none at (finite.len-remove nat_list_cmp_total m t))
  len_removed (Some u) is =
      let some : finite.contains_key m t ≡ true = ap is_some (sym is) in
      omega (arith, rw some at (finite.len-remove nat_list_cmp_total m t), has_one _ refl some)

-- the texts of keys
abbrev pub key_texts : List StringView → List (List ℕ)
key_texts ks = map (λ k. k.text) ks

-- the map's keys are these texts
entries-empty : finite.entries (finite.empty {X = List ℕ × List ℕ} {R = slice_cmp nat_cmp}) ≡ []
entries-empty = nil_from_length _ (sym (finite.len-entries _) ∙ finite.len-empty (slice_cmp nat_cmp) (List ℕ × List ℕ))

entries-users : (es : List (StringView × User)) → IsStrictlySortedBy (λ a b. slice_cmp nat_cmp a.text b.text) (keys_of es)
    → finite.entries (users_of es) ≡ entry_texts es
unfolding IsStrictlySortedBy
entries-users [] is = entries-empty
entries-users (e ∷ []) is =
    finite.entries-insert nat_list_cmp_total finite.empty e.0.text (texts e.1) ∙ ap (put (slice_cmp nat_cmp) e.0.text (texts e.1)) entries-empty
entries-users (e ∷ f ∷ es) is =
    finite.entries-insert nat_list_cmp_total (users_of (f ∷ es)) e.0.text (texts e.1)
    ∙ ap (put (slice_cmp nat_cmp) e.0.text (texts e.1)) (entries-users (f ∷ es) is.1) ∙ rw is.0.0 refl

first-texts : (es : List (StringView × User)) → keys_of (entry_texts es) ≡ key_texts (keys_of es)
first-texts [] = refl
first-texts (e ∷ es) = cc (first-texts es)

pub keys_users : (es : List (StringView × User)) → IsStrictlySortedBy (λ a b. slice_cmp nat_cmp a.text b.text) (keys_of es)
    → finite.keys (users_of es) ≡ key_texts (keys_of es)
keys_users es is = ap keys_of (entries-users es is) ∙ first-texts es

-- the number of users
pub len_users : (es : List (StringView × User)) → IsStrictlySortedBy (λ a b. slice_cmp nat_cmp a.text b.text) (keys_of es)
    → finite.len (users_of es) ≡ length es
len_users es is = finite.len-entries (users_of es) ∙ ap length (entries-users es is) ∙ length-map es (λ e. (e.0.text, texts e.1))

pub len_keys : (m : Users) → length (finite.keys m) ≡ finite.len m
len_keys m = length-map (finite.entries m) (λ e. e.0) ∙ sym (finite.len-entries m)

-- the users, in the order of their keys
second-texts : (es : List (StringView × User)) → map (λ e. e.1) (entry_texts es) ≡ map texts (values_of es)
second-texts [] = refl
second-texts (e ∷ es) = cc (second-texts es)

pub values_users : (es : List (StringView × User)) → IsStrictlySortedBy (λ a b. slice_cmp nat_cmp a.text b.text) (keys_of es)
    → finite.values (users_of es) ≡ map texts (values_of es)
values_users es is = ap (map (λ e. e.1)) (entries-users es is) ∙ second-texts es
