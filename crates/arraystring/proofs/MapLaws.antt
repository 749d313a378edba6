-- Laws of std's maps whose keys are strings: what it says of each key, said of each text.
use Rattle.std.proofs.Common.{◌≡◌, ◌≢◌, ℕ, List, [], ◌∷◌, Bool, false, cond, Option, map, sym}
use Rattle.std.specs.BTreeMap.{is_at}
use Rattle.std.specs.Map.{lookup}
use Rattle.std.specs.List.{AllByRecursion, AllPairs}
use Rattle.std.specs.List.Sorted.{IsStrictlySortedBy}
use Rattle.std.specs.Ordering.{nat_cmp, eq_by_cmp}
use Rattle.std.specs.declared.cmp.Ordering.TheVariants.{Less}
use Rattle.std.specs.Cmp.Lexicographic.{slice_cmp}
use Rattle.std.proofs.lemmas.Bool.{false_from_ne_true}
use Rattle.std.proofs.lemmas.Map.Keys.{Less-from_sorted}
use Rattle.std.proofs.lemmas.Map.Lookups.{exact_bytes}
use Rattle.std.proofs.lemmas.Map.Views.{tells_apart}
use Rattle.arraystring_base.specs.Text.{IsBefore}
use Rattle.arraystring_core.specs.Stored.{StringView, view_with_empty_spare}
use Rattle.arraystring_base.proofs.OrderLaws.{order-says}

-- whether a key has the text t
abbrev pub has_text : List ℕ → StringView → Bool
has_text t = is_at (λ (key : StringView). slice_cmp nat_cmp t key.text)

-- each text is that of a key: what is so of the text of each key is so of each text
pub each-text : (P : List ℕ → Type 0) → ((key : StringView) → P key.text) → (t : List ℕ) → P t
each-text P is t = is (view_with_empty_spare t)

-- the entries before and after a call that changes what is under one key
module _ {X : Type 0} (old new : List (StringView × X)) (text : List ℕ) where
  -- under that key is what the call puts there, and under each other what was
  pub updated-text : (value : Option X) → ((key : StringView) → lookup (has_text key.text) new ≡ cond (has_text text key) value (lookup (has_text key.text) old))
      → (t : List ℕ) → lookup (has_text t) new ≡ cond (eq_by_cmp (slice_cmp nat_cmp) text t) value (lookup (has_text t) old)
  updated-text value =
      each-text (λ t. lookup (has_text t) new ≡ cond (eq_by_cmp (slice_cmp nat_cmp) text t) value (lookup (has_text t) old))

  -- what is under another text stays
  pub updated-others : ((key : StringView) → has_text text key ≡ false → lookup (has_text key.text) new ≡ lookup (has_text key.text) old)
      → (t : List ℕ) → t ≢ text → lookup (has_text t) new ≡ lookup (has_text t) old
  updated-others is =
      each-text (λ t. t ≢ text → lookup (has_text t) new ≡ lookup (has_text t) old)
      (λ key other. is key (false_from_ne_true _ (λ same. other (sym (tells_apart exact_bytes text key.text same)))))

-- a text that is before those of some keys is before each of these texts
texts-after : (t : List ℕ) (keys : List StringView) → AllByRecursion (λ key. slice_cmp nat_cmp t key.text ≡ Less) keys
    → AllByRecursion (λ u. slice_cmp nat_cmp t u ≡ Less) (map (λ key. key.text) keys)
texts-after t [] less = tt
texts-after t (key ∷ keys) less = (less.0, texts-after t keys less.1)

-- the texts of keys in order are in order
texts-sorted : (keys : List StringView) → IsStrictlySortedBy (λ a b. slice_cmp nat_cmp a.text b.text) keys
    → IsStrictlySortedBy (slice_cmp nat_cmp) (map (λ key. key.text) keys)
unfolding IsStrictlySortedBy
texts-sorted [] sorted = tt
texts-sorted (key ∷ keys) sorted = (texts-after key.text keys sorted.0, texts-sorted keys sorted.1)

-- and ascend
pub keys-ascend : (keys : List StringView) → IsStrictlySortedBy (λ a b. slice_cmp nat_cmp a.text b.text) keys
    → AllPairs IsBefore (map (λ key. key.text) keys)
keys-ascend keys sorted i j d lt within =
    let texts = map (λ (key : StringView). key.text) keys in
    order-says _ _ Less (sym (Less-from_sorted (slice_cmp nat_cmp) texts i j d (texts-sorted keys sorted) lt within))
