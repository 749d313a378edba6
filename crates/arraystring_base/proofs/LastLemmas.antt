-- The last character of a text, by the bytes at its end.
use Rattle.std.proofs.Common.{◌≡◌, ℕ, ◌+◌, ◌-◌, ◌*◌, ◌<◌, ◌≤◌, ◌⊎◌, List, [], ◌∷◌, ◌++◌, length, get_or, refl, sym, ap, ◌∙◌, subst, arith, IsUtf8, chars, length-append}
use Rattle.std.specs.Char.{IsScalar}
use Rattle.std.proofs.lemmas.Bool.Decides.{nat_tests}
use Rattle.std.proofs.lemmas.List.{append-nil, get_or-append-add, nil_from_length}
use Rattle.std.proofs.lemmas.Str.{chars-nil}
use Rattle.arraystring_base.specs.Text.{utf8, size, bytes}
use Rattle.arraystring_base.proofs.TextLaws.{width-bounds, bytes-append, bytes-chars, size-is, text-chars, scalar-is}
use Rattle.arraystring_base.proofs.BoundaryLaws.{trailing-text}

-- no bytes are no characters
pub chars_empty : (bs : List ℕ) → length bs ≡ 0 → chars bs ≡ []
chars_empty bs none = ap chars (nil_from_length bs none) ∙ chars-nil

-- the k-th byte from the end
abbrev from_end : List ℕ → ℕ → ℕ
from_end bs k = get_or bs (length bs - k) 0

from_end-append : (xs ys : List ℕ) (k : ℕ) → k ≤ length ys → from_end (xs ++ ys) k ≡ from_end ys k
from_end-append xs ys k le =
    let offset : length (xs ++ ys) - k ≡ length xs + (length ys - k) = omega (arith, length-append xs ys) in
    rw offset (get_or-append-add xs ys (length ys - k) 0)

-- the last of n bytes, counted from the end, are those of the character c, which begins at m
abbrev Spell : ℕ → ℕ → ℕ → ℕ → ℕ → ℕ → ℕ → Type 0
Spell last second third fourth n m c =
    (last < 0x80) × (n ≡ m + 1) × (c ≡ last)
    ⊎ (0x80 ≤ last) × (0xC0 ≤ second) × (n ≡ m + 2) × (c + 0xC0 * 64 + 0x80 ≡ second * 64 + last)
    ⊎ (0x80 ≤ last) × (0x80 ≤ second) × (second < 0xC0) × (0xE0 ≤ third) × (n ≡ m + 3)
    × (c + 0xE0 * 4096 + 0x80 * 64 + 0x80 ≡ third * 4096 + second * 64 + last)
    ⊎ (0x80 ≤ last) × (0x80 ≤ second) × (second < 0xC0) × (0x80 ≤ third) × (third < 0xC0) × (0xF0 ≤ fourth) × (n ≡ m + 4)
    × (c + 0xF0 * 262144 + 0x80 * 4096 + 0x80 * 64 + 0x80 ≡ fourth * 262144 + third * 4096 + second * 64 + last)

abbrev EndsWith : List ℕ → ℕ → ℕ → Type 0
EndsWith bs m c = Spell (from_end bs 1) (from_end bs 2) (from_end bs 3) (from_end bs 4) (length bs) m c

-- `grind` takes the four widths, and reads the last bytes of each: so many, with these marks, spell the character
ends-with : (xs : List ℕ) (c : ℕ) → EndsWith (xs ++ utf8 c) (length xs) c
unfolding utf8
ends-with xs c = grind (arith, nat_tests, length-append {A = ℕ}, from_end-append)

last-split : (t : List ℕ) → 0 < size t → (front : List ℕ) × (c : ℕ) × (t ≡ front ++ c ∷ [])
last-split [] some = absurd (omega arith)
last-split (c ∷ []) some = ([], c, refl)
last-split (a ∷ b ∷ t) some =
    let rest = last-split (b ∷ t) (omega (arith, width-bounds b)) in (a ∷ rest.0, rest.1, ap (λ l. a ∷ l) rest.2)

-- the last character of bs, and what comes before it
pub record Last (bs : List ℕ) : Type 0 where
  pub front : List ℕ
  pub c : ℕ
  is : chars bs ≡ front ++ c ∷ []
  scalar : IsScalar c
  pub ends : EndsWith bs (size front) c

pub last_of : {all bs : List ℕ} → all ≡ bs → IsUtf8 bs → 0 < length bs → Last all
last_of {bs = bs} same u some =
    let (front, c, split) = last-split (chars bs) (omega (arith, size-is (chars bs), ap length (bytes-chars u))) in
    let spelled : bs ≡ bytes front ++ utf8 c = rw (split, bytes-append, append-nil) at (sym (bytes-chars u)) in
    rw same (record {
      front = front;
      c = c;
      is = split;
      scalar = scalar-is c (trailing-text front (c ∷ []) (rw split at (text-chars u))).0;
      ends = subst (λ l. EndsWith l (size front) c) (sym spelled) (rw (size-is front) (ends-with (bytes front) c));
    })

-- a number that is that of the last character, which has k bytes
module _ {bs : List ℕ} (last : Last bs) {code : ℕ} (same : last.c ≡ code) where
  pub is-scalar : IsScalar code
  is-scalar = rw (← same) last.scalar

  pub is-last : (k : ℕ) → size last.front ≡ length bs - k
      → (front : List ℕ) × (chars bs ≡ front ++ code ∷ []) × (size front ≡ length bs - k)
  is-last k long = rw (← same) (last.front, last.is, long)
