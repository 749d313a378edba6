-- Laws of std's maps whose keys are strings: what is under each text after a call that changes what is under one.
use Rattle.std.proofs.Common.{◌≡◌, ◌≢◌, ◌⊎◌, ℕ, List, Bool, true, false, inl, inr, refl, sym, ap, ◌∙◌}
use Rattle.std.specs.BTreeMap.{is_at}
use Rattle.std.specs.Map.{lookup, KeepsOthers}
use Rattle.std.specs.Ordering.{nat_cmp, eq_by_cmp}
use Rattle.std.specs.Cmp.Lexicographic.{slice_cmp, bytes_decides, texts_ties, pointwise}
use Rattle.std.specs.Str.{bytes_eq}
use Rattle.std.specs.Bool.{nat_eq}
use Rattle.std.specs.Borrow.{Bor}
use Rattle.std.proofs.lemmas.Bool.{cases_Bool, false_from_ne_true}
use Rattle.std.proofs.lemmas.Cmp.{nat_list_eq_equiv}
use Rattle.arraystring_core.specs.Stored.{StringView}

-- `test` looks for one text and `query` for another. Either they are the same, or what is under the other did not change.
abbrev pub After : {V : Type 0} → (StringView → Bool) → (StringView → Bool) → List ℕ → List ℕ → List (StringView × V) → List (StringView × V) → Type 0
After test query text t old new =
    ((t ≡ text) × (lookup query new ≡ lookup test new) × (lookup query old ≡ lookup test old))
    ⊎ ((t ≢ text) × (lookup query new ≡ lookup query old))

-- of two texts that differ, a third is at most one
apart : (a b k : List ℕ) → bytes_eq a b ≡ false → bytes_eq a k ≡ true → bytes_eq b k ≡ false
apart a b k differ same =
    false_from_ne_true _ (λ e. absurd (cc (differ, (bytes_decides a b).1 ((bytes_decides a k).0 same ∙ sym ((bytes_decides b k).0 e)))))

-- `by` says how a map looks for a text
module _ {V : Type 0} (by : List ℕ → StringView → Bool) (is : (l : List ℕ) (k : StringView) → by l k ≡ bytes_eq l k.text) (text t : List ℕ) where
  after : (old new : List (StringView × V)) → KeepsOthers (λ a b. by a.text b) (by text) old new → After (by text) (by t) text t old new
  unfolding KeepsOthers
  after old new keeps = go (cases_Bool (bytes_eq text t))
    where
      go : (bytes_eq text t ≡ true) ⊎ (bytes_eq text t ≡ false) → After (by text) (by t) text t old new
      go (inl y) =
          let e : t ≡ text = sym ((bytes_decides text t).0 y) in inl (e, ap (λ l. lookup (by l) new) e, ap (λ l. lookup (by l) old) e)
      go (inr n) = inr (
        λ e. absurd (cc (n, (bytes_decides text t).1 (sym e))),
        keeps (by t)
            (λ x y same. is t y ∙ nat_list_eq_equiv.congr t x.text y.text (sym (is t x) ∙ same) ∙ sym (is x.text y))
            (λ k same. is t k ∙ apart text t k.text n (sym (is text k) ∙ same)),
      )

-- The laws have the form that `grind` finds: it looks for the change and for the question, which the first two parts show, and for each
-- as std's calls and a caller's clause write it. So a call that takes the key, and one that borrows it, have a law each.
module _ {V : Type 0} (key : StringView) (t : List ℕ) (old new : List (StringView × V)) where
  -- `insert` of a `BTreeMap`
  pub ordered-put : KeepsOthers (eq_by_cmp (λ a b. slice_cmp nat_cmp a.text b.text)) (is_at (λ k. slice_cmp nat_cmp key.text k.text)) old new
      → KeepsOthers (eq_by_cmp (λ a b. slice_cmp nat_cmp a.text b.text)) (is_at (λ k. slice_cmp nat_cmp key.text k.text)) old new
      × (lookup (is_at (λ k. slice_cmp nat_cmp t k.text)) new ≡ lookup (is_at (λ k. slice_cmp nat_cmp t k.text)) new)
      × After (is_at (λ k. slice_cmp nat_cmp key.text k.text)) (is_at (λ k. slice_cmp nat_cmp t k.text)) key.text t old new
  ordered-put keeps =
      (keeps, refl, after (λ l. is_at (λ k. slice_cmp nat_cmp l k.text)) (λ l k. sym (texts_ties l k.text)) key.text t old new keeps)

  -- `insert` of a `HashMap`
  pub hashed-put : KeepsOthers (λ a b. pointwise nat_eq a.text b.text) (λ k. pointwise nat_eq key.text k.text) old new
      → KeepsOthers (λ a b. pointwise nat_eq a.text b.text) (λ k. pointwise nat_eq key.text k.text) old new
      × (lookup (λ k. bytes_eq t k.text) new ≡ lookup (λ k. bytes_eq t k.text) new)
      × After (λ k. pointwise nat_eq key.text k.text) (λ k. bytes_eq t k.text) key.text t old new
  hashed-put keeps = (keeps, refl, after (λ l k. pointwise nat_eq l k.text) (λ l k. refl) key.text t old new keeps)

module _ {V : Type 0} (key : Bor StringView) (t : List ℕ) (old new : List (StringView × V)) where
  -- `remove` of a `BTreeMap`
  pub ordered-out : KeepsOthers (eq_by_cmp (λ a b. slice_cmp nat_cmp a.text b.text)) (is_at (λ k. slice_cmp nat_cmp key.now.text k.text)) old new
      → KeepsOthers (eq_by_cmp (λ a b. slice_cmp nat_cmp a.text b.text)) (is_at (λ k. slice_cmp nat_cmp key.now.text k.text)) old new
      × (lookup (is_at (λ k. slice_cmp nat_cmp t k.text)) new ≡ lookup (is_at (λ k. slice_cmp nat_cmp t k.text)) new)
      × After (is_at (λ k. slice_cmp nat_cmp key.now.text k.text)) (is_at (λ k. slice_cmp nat_cmp t k.text)) key.now.text t old new
  ordered-out keeps =
      (keeps, refl, after (λ l. is_at (λ k. slice_cmp nat_cmp l k.text)) (λ l k. sym (texts_ties l k.text)) key.now.text t old new keeps)

  -- `remove` of a `HashMap`
  pub hashed-out : KeepsOthers (λ a b. pointwise nat_eq a.text b.text) (λ k. pointwise nat_eq key.now.text k.text) old new
      → KeepsOthers (λ a b. pointwise nat_eq a.text b.text) (λ k. pointwise nat_eq key.now.text k.text) old new
      × (lookup (λ k. bytes_eq t k.text) new ≡ lookup (λ k. bytes_eq t k.text) new)
      × After (λ k. pointwise nat_eq key.now.text k.text) (λ k. bytes_eq t k.text) key.now.text t old new
  hashed-out keeps = (keeps, refl, after (λ l k. pointwise nat_eq l k.text) (λ l k. refl) key.now.text t old new keeps)
