-- One turn of a loop that adds what an iterator gives.
use Rattle.std.proofs.Common.{◌≡◌, ℕ, ◌+◌, ◌-◌, ◌<◌, ◌≤◌, List, [], ◌∷◌, ◌++◌, refl, ap, ◌∙◌, arith, map, append_assoc}
use Rattle.std.proofs.lemmas.Bool.{lt-leb}
use Rattle.std.proofs.lemmas.List.{append-nil, map-append}
use Rattle.arraystring_base.specs.Text.{width, size, cut}
use Rattle.arraystring_base.proofs.TextLaws.{size-append}
use Rattle.arraystring_base.proofs.CutLaws.{cut-all, cut-past_part}
use Rattle.arraystring_core.specs.Taken.{OnlyLastDoesNotFit, joined_pieces, piece_text}
use Rattle.arraystring_core.proofs.TakenLaws.{joined-append}

-- one more character, and one more piece
abbrev pub chars_text : List ℕ → List ℕ
chars_text cs = cs

abbrev pub char_text : ℕ → List ℕ
char_text c = c ∷ []

-- the text of items, by that of one
pub record IsSpelling {A : Type 0} (spelled : List A → List ℕ) (one : A → List ℕ) : Type 0 where
  pub more : (items : List A) (x : A) → spelled (items ++ x ∷ []) ≡ spelled items ++ one x

pub of_characters : IsSpelling chars_text char_text
of_characters = record { more = λ cs c. refl }

pub of_pieces : IsSpelling joined_pieces piece_text
of_pieces = record {
  more = λ pieces piece.
      rw (map-append piece_text pieces (piece ∷ []), joined-append (map piece_text pieces) (piece_text piece ∷ []))
      (rw (append-nil (piece_text piece)) refl);
}

-- a character that does not fit has no cut
pub cut-none : (c n : ℕ) → n < width c → cut (c ∷ []) n ≡ []
cut-none c n over = rw (lt-leb (width c) n over) refl

-- the text `now` is the text `old` and the items after it, which fit into n bytes
pub record IsAdded {A : Type 0} (spelled : List A → List ℕ) (old now : List ℕ) (n : ℕ) (items : List A) : Type 0 where
  pub text : now ≡ old ++ spelled items
  pub fits : size old + size (spelled items) ≤ n

-- no other item comes
pub added-all : {A : Type 0} {spelled : List A → List ℕ} {old now : List ℕ} {n : ℕ} {items : List A} → IsAdded spelled old now n items
    → (size (spelled items) ≤ n - size old) × (now ≡ old ++ cut (spelled items) (n - size old))
added-all {spelled = spelled} {old} {n = n} {items} is =
    let fits : size (spelled items) ≤ n - size old = omega arith in
    (fits, rw (cut-all fits) is.text)

-- the item x comes
module _ {A : Type 0} {spelled : List A → List ℕ} {one : A → List ℕ} (spelling : IsSpelling spelled one)
    {old now : List ℕ} {n : ℕ} {items : List A} (is : IsAdded spelled old now n items) (x : A) where
  sum : size now ≡ size old + size (spelled items)
  sum = ap size is.text ∙ size-append old (spelled items)

  next-sum : size (spelled (items ++ x ∷ [])) ≡ size (spelled items) + size (one x)
  next-sum = ap size (spelling.more items x) ∙ size-append (spelled items) (one x)

  pub added-more : {new : List ℕ} → (size now + size (one x) ≤ n) × (new ≡ now ++ one x) → IsAdded spelled old new n (items ++ x ∷ [])
  added-more done = record {
    text = rw (spelling.more items x, ← append_assoc old (spelled items) (one x), ← is.text) done.1;
    fits = omega (arith, sum, next-sum);
  }

  pub added-past : n < size now + size (one x) → OnlyLastDoesNotFit spelled (n - size old) (items ++ x ∷ [])
  added-past over =
      let fits : size (spelled items) ≤ n - size old = omega arith in
      let past : n - size old < size (spelled (items ++ x ∷ [])) = omega (arith, sum, next-sum) in
      (items, x, refl, fits, past)

  added-cut : now ++ cut (one x) (n - size now) ≡ old ++ cut (spelled (items ++ x ∷ [])) (n - size old)
  added-cut =
      let left : n - size now ≡ n - size old - size (spelled items) = omega (arith, sum) in
      let fits : size (spelled items) ≤ n - size old = omega arith in
      rw (left, is.text, append_assoc old (spelled items) _, spelling.more items x)
      (rw (cut-past_part (spelled items) (one x) (n - size old) fits) refl)

  -- if a part of x was added, and if x has none
  pub added-part : {before new : List ℕ} → before ≡ now → new ≡ before ++ cut (one x) (n - size before)
      → new ≡ old ++ cut (spelled (items ++ x ∷ [])) (n - size old)
  added-part e f = rw e at f ∙ added-cut

  pub added-none : {new : List ℕ} → new ≡ now → cut (one x) (n - size now) ≡ [] → new ≡ old ++ cut (spelled (items ++ x ∷ [])) (n - size old)
  added-none e none = e ∙ rw (none, append-nil now) at added-cut

-- the text `now` is the items, and with the item x they fit
module _ {A : Type 0} {spelled : List A → List ℕ} {one : A → List ℕ} (spelling : IsSpelling spelled one)
    {now : List ℕ} (items : List A) (is : now ≡ spelled items) (x : A) where
  pub next-fits : {n : ℕ} → size (spelled (items ++ x ∷ [])) ≤ n → size now + size (one x) ≤ n
  next-fits fits = omega (arith, ap size is, ap size (spelling.more items x), size-append (spelled items) (one x))

  pub next-text : {new : List ℕ} → new ≡ now ++ one x → new ≡ spelled (items ++ x ∷ [])
  next-text e = rw (spelling.more items x, ← is) e
