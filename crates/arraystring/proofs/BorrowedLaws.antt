-- Laws of std's calls over a `&str`, which speak of bytes, said of the characters.
use Rattle.std.proofs.Common.{◌≡◌, ◌≢◌, ◌⊎◌, ℕ, List, true, false, inl, inr, refl, sym, ap, ◌∙◌, IsUtf8, chars, length}
use Rattle.std.specs.Ordering.{nat_cmp}
use Rattle.std.specs.Bool.{nat_eq}
use Rattle.std.specs.Cmp.Lexicographic.{slice_cmp, bytes_decides, pointwise}
use Rattle.std.proofs.lemmas.Bool.{cases_Bool}
use Rattle.arraystring_base.specs.Text.{size, bytes}
use Rattle.arraystring_base.proofs.TextLaws.{bytes-chars, bytes_same, pointwise-bytes, size-borrowed}
use Rattle.arraystring_base.proofs.OrderLaws.{order-bytes}

-- two texts are equal if and only if their characters are
pub borrowed-same : (a b : List ℕ) → (pointwise nat_eq a b ≡ pointwise nat_eq a b) × (IsUtf8 a → IsUtf8 b
    → (pointwise nat_eq a b ≡ pointwise nat_eq (chars a) (chars b)) × (((pointwise nat_eq a b ≡ true) × (chars a ≡ chars b)) ⊎ ((pointwise nat_eq a b ≡ false) × (chars a ≢ chars b))))
borrowed-same a b =
    (refl, λ u v. (ap (λ x. pointwise nat_eq x b) (sym (bytes-chars u)) ∙ ap (λ y. pointwise nat_eq (bytes (chars a)) y) (sym (bytes-chars v)) ∙ pointwise-bytes (chars a) (chars b), go u v (cases_Bool (pointwise nat_eq a b))))
  where
    go : IsUtf8 a → IsUtf8 b → (pointwise nat_eq a b ≡ true) ⊎ (pointwise nat_eq a b ≡ false)
        → ((pointwise nat_eq a b ≡ true) × (chars a ≡ chars b)) ⊎ ((pointwise nat_eq a b ≡ false) × (chars a ≢ chars b))
    go u v (inl y) = inl (y, ap chars ((bytes_decides a b).0 y))
    go u v (inr n) = inr (n, λ e. absurd (cc (n, (bytes_decides a b).1 (sym (bytes-chars u) ∙ ap bytes e ∙ bytes-chars v))))

-- and ordered as these
pub borrowed-order : (a b : List ℕ) → (slice_cmp nat_cmp a b ≡ slice_cmp nat_cmp a b) × (IsUtf8 a → IsUtf8 b
    → slice_cmp nat_cmp a b ≡ slice_cmp nat_cmp (chars a) (chars b))
borrowed-order a b = (
  refl,
  λ u v.
      sym (ap (λ x. slice_cmp nat_cmp x b) (bytes-chars u)) ∙ sym (ap (λ y. slice_cmp nat_cmp (bytes (chars a)) y) (bytes-chars v))
      ∙ order-bytes (chars a) (chars b),
)

-- it has as many bytes as its characters take
pub borrowed-length : (bs : List ℕ) → (chars bs ≡ chars bs) × (IsUtf8 bs → size (chars bs) ≡ length bs)
borrowed-length bs = (refl, λ u. size-borrowed u)

-- the UTF-8 of two texts is the same if and only if the texts are
pub borrowed-bytes : (a b : List ℕ) → (pointwise nat_eq (bytes a) (bytes b) ≡ pointwise nat_eq (bytes a) (bytes b))
    × (((pointwise nat_eq (bytes a) (bytes b) ≡ true) × (a ≡ b)) ⊎ ((pointwise nat_eq (bytes a) (bytes b) ≡ false) × (a ≢ b)))
borrowed-bytes a b = (refl, go (cases_Bool (pointwise nat_eq (bytes a) (bytes b))))
  where
    go : (pointwise nat_eq (bytes a) (bytes b) ≡ true) ⊎ (pointwise nat_eq (bytes a) (bytes b) ≡ false)
        → ((pointwise nat_eq (bytes a) (bytes b) ≡ true) × (a ≡ b)) ⊎ ((pointwise nat_eq (bytes a) (bytes b) ≡ false) × (a ≢ b))
    go (inl y) = inl (y, bytes_same ((bytes_decides (bytes a) (bytes b)).0 y))
    go (inr n) = inr (n, λ e. absurd (cc (n, (bytes_decides (bytes a) (bytes b)).1 (ap bytes e))))
