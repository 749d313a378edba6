-- Laws of std's `strip_prefix`, `find` and `split_once` at a text: what they say of bytes, said of characters.
use Rattle.std.proofs.Common.{◌≡◌, ℕ, ◌+◌, ◌<◌, ◌≤◌, List, ◌++◌, length, take, drop, refl, sym, ap, ◌∙◌, arith, true, ⊎_elim, IsUtf8, chars, take-append-drop, length-append, length-take-le}
use Rattle.std.specs.Str.{IsCharBoundary}
use Rattle.std.specs.Str.Pattern.{HasTextAt, LacksTextAt}
use Rattle.std.proofs.lemmas.Bool.{cases_lt}
use Rattle.std.proofs.lemmas.List.{drop_at}
use Rattle.std.proofs.lemmas.Str.{chars-append, IsUtf8-append, IsUtf8-drop, IsUtf8-take, IsCharBoundary-from_drop}
use Rattle.arraystring_base.specs.Text.{size, bytes, boundary, front, back}
use Rattle.arraystring_base.proofs.TextLaws.{bytes-append, bytes-chars, size-is, size-borrowed}
use Rattle.arraystring_base.proofs.BoundaryLaws.{boundary-is, front-is, back-is}

-- the bytes `front` are what the text begins with: so its characters begin with theirs, and the others are those of what is behind
pub prefix-found : (front : List ℕ) (k : ℕ) (bs : List ℕ) → (front ++ drop k bs ≡ front ++ drop k bs)
    × (IsUtf8 front → IsUtf8 bs → bs ≡ front ++ drop k bs → k ≡ length front → IsCharBoundary bs (length front)
    → (chars bs ≡ chars front ++ chars (drop k bs)) × IsUtf8 (drop k bs))
prefix-found front k bs =
    (refl, λ u v is same at. (ap chars is ∙ chars-append front (drop k bs) u, IsUtf8-drop bs k v (rw same at)))

-- if the characters of a text begin with those of `front`, its bytes begin with `front`
pub prefix-bytes : (front rest : List ℕ) → (chars front ++ rest ≡ chars front ++ rest) × ((bs : List ℕ) → (chars bs ≡ chars bs)
    × (IsUtf8 front → IsUtf8 bs → chars bs ≡ chars front ++ rest → bs ≡ front ++ bytes rest))
prefix-bytes front rest = (
  refl,
  λ bs. (
    refl,
    λ u v is.
        sym (bytes-chars v) ∙ ap bytes is ∙ bytes-append (chars front) rest ∙ ap (λ l. l ++ bytes rest) (bytes-chars u),
  ),
)

-- the text m stands in another one from i to j: what is before it and what is behind it, and it stands nowhere before
pub record StandsFirst (m bs : List ℕ) (i j : ℕ) : Type 0 where
  pub parts : chars bs ≡ chars (take i bs) ++ (m ++ chars (drop j bs))
  pub long : size (chars (take i bs)) ≡ i
  pub at : boundary (chars bs) i ≡ true
  pub before : front (chars bs) i ≡ chars (take i bs)
  pub behind : back (chars bs) i ≡ m ++ chars (drop j bs)
  pub first : (a b : List ℕ) → chars bs ≡ a ++ (m ++ b) → i ≤ size a

-- bytes that stand at a place of a text: the characters before them, theirs, and those behind them
module _ {n bs : List ℕ} {i j : ℕ} (at : HasTextAt n bs i j) (v : IsUtf8 n) (u : IsUtf8 bs) (within : i ≤ length bs) where
  -- what is behind it is text, and so is what is before it
  behind : IsUtf8 (drop j bs)
  behind = rw at.ends (IsUtf8-drop bs (i + length n) u at.after)

  before : IsUtf8 (take i bs)
  before =
      let rest : IsUtf8 (drop i bs) = rw at.split (IsUtf8-append n (drop j bs) v behind) in
      IsUtf8-take bs i u (IsCharBoundary-from_drop bs i within rest)

  parts : chars bs ≡ chars (take i bs) ++ (chars n ++ chars (drop j bs))
  parts =
      ap chars (sym (take-append-drop i bs)) ∙ chars-append (take i bs) (drop i bs) before
      ∙ ap (λ l. chars (take i bs) ++ l) (ap chars at.split ∙ chars-append n (drop j bs) v)

  size-before : size (chars (take i bs)) ≡ i
  size-before = size-borrowed before ∙ length-take-le i bs within

  place : (boundary (chars bs) i ≡ true) × (front (chars bs) i ≡ chars (take i bs)) × (back (chars bs) i ≡ chars n ++ chars (drop j bs))
  place =
      rw parts (
        boundary-is (chars (take i bs)) (chars n ++ chars (drop j bs)) i size-before,
        front-is (chars (take i bs)) (chars n ++ chars (drop j bs)) i size-before,
        back-is (chars (take i bs)) (chars n ++ chars (drop j bs)) i size-before,
      )

-- where the characters of a text stand among others, its bytes stand among theirs
pub text-bytes : (n a b : List ℕ) → (a ++ (chars n ++ b) ≡ a ++ (chars n ++ b)) × ((bs : List ℕ) → (chars bs ≡ chars bs)
    × (IsUtf8 n → IsUtf8 bs → chars bs ≡ a ++ (chars n ++ b) → (drop (size a) bs ≡ n ++ bytes b) × (size a ≤ length bs)))
text-bytes n a b = (
  refl,
  λ bs. (
    refl,
    λ v u is.
        let whole : bs ≡ bytes a ++ (n ++ bytes b) =
        sym (bytes-chars u) ∙ ap bytes is ∙ bytes-append a (chars n ++ b)
        ∙ ap (λ l. bytes a ++ l) (bytes-append (chars n) b ∙ ap (λ l. l ++ bytes b) (bytes-chars v)) in (
          ap (drop (size a)) whole ∙ drop_at (bytes a) (n ++ bytes b) (size a) (sym (size-is a)),
          omega (arith, ap length whole, length-append (bytes a) (n ++ bytes b), size-is a),
        ),
  ),
)

-- so it is where they first stand
first-found : {n bs : List ℕ} {i j : ℕ} → HasTextAt n bs i j → IsUtf8 n → IsUtf8 bs → i ≤ length bs
    → ((k : ℕ) → k < i → LacksTextAt n bs k) → StandsFirst (chars n) bs i j
first-found {n} {bs} {i} {j} at v u within none =
    let p = place at v u within in
    record {
      parts = parts at v u within;
      long = size-before at v u within;
      at = p.0;
      before = p.1;
      behind = p.2;
      first = λ a b is.
          let it = (text-bytes n a b).1 bs in
          ⊎_elim (λ less. absurd (none (size a) less (bytes b) (it.1 v u is).0)) (λ le. le) (cases_lt (size a) i);
    }

-- the bytes `n` stand in a text from i on, and nowhere before, in the form that `grind` finds
pub text-found : (i : ℕ) (bs : List ℕ) → (drop i bs ≡ drop i bs) × ((n : List ℕ) (j : ℕ) → HasTextAt n bs i j → IsUtf8 n → IsUtf8 bs → i ≤ length bs
    → ((k : ℕ) → k < i → LacksTextAt n bs k) → StandsFirst (chars n) bs i j)
text-found i bs = (refl, λ n j at v u within none. first-found at v u within none)
