-- Laws of order: the order of the bytes of two texts is that of their characters.
use Rattle.std.proofs.Common.{◌≡◌, ℕ, ◌<◌, List, [], ◌∷◌, ◌++◌, ◌⊎◌, ◌↔◌, refl, sym, ap, ◌∙◌, arith, inl, inr, Ordering, Less, Equal, Greater}
use Rattle.std.proofs.lemmas.Bool.Decides.{nat_tests}
use Rattle.std.proofs.lemmas.Cmp.{nat_list_cmp_total, tied_itself, ranked}
use Rattle.std.specs.Cmp.Lexicographic.{slice_cmp, bytes_decides, texts_ties}
use Rattle.std.specs.Ordering.{nat_cmp, ordering_then, ordering_reverse, is_eq, MatchOrdering}
use Rattle.arraystring_base.specs.Text.{utf8, bytes, IsBefore}

-- the order of the bytes of two texts is that of the characters: `grind` takes each pair of widths. If they differ, so do the
-- first bytes, since the wider character begins with the greater one; else the first byte that differs decides
pub order-bytes : (a b : List ℕ) → slice_cmp nat_cmp (bytes a) (bytes b) ≡ slice_cmp nat_cmp a b
unfolding utf8
order-bytes [] [] = refl
order-bytes [] (d ∷ b) = grind (arith, nat_tests)
order-bytes (c ∷ a) [] = grind (arith, nat_tests)
order-bytes (c ∷ a) (d ∷ b) = grind (arith, nat_tests, order-bytes a b)

-- the order in words of its own
before-gives_less : (a b : List ℕ) → IsBefore a b → slice_cmp nat_cmp a b ≡ Less
before-gives_less a b (inl (c, rest, e)) = rw e (go a)
  where
    -- equal characters decide nothing, so the rest does
    go : (a : List ℕ) → slice_cmp nat_cmp a (a ++ c ∷ rest) ≡ Less
    go [] = refl
    go (x ∷ a) = grind (arith, nat_tests, go a)
before-gives_less a b (inr (p, c, d, x, y, ea, eb, lt)) = rw (ea, eb) (go p)
  where
    -- equal characters decide nothing, and then c < d does
    go : (p : List ℕ) → slice_cmp nat_cmp (p ++ c ∷ x) (p ++ d ∷ y) ≡ Less
    go [] = grind (arith, nat_tests)
    go (z ∷ p) = grind (arith, nat_tests, go p)

longer : (x : ℕ) (xs ys : List ℕ) → IsBefore xs ys → IsBefore (x ∷ xs) (x ∷ ys)
longer x xs ys (inl (c, rest, e)) = inl (c, rest, ap (λ l. x ∷ l) e)
longer x xs ys (inr (p, c, d, us, vs, ea, eb, lt)) = inr (x ∷ p, c, d, us, vs, ap (λ l. x ∷ l) ea, ap (λ l. x ∷ l) eb, lt)

less-gives_before : (a b : List ℕ) → slice_cmp nat_cmp a b ≡ Less → IsBefore a b
less-gives_before [] [] e = absurd (cc)
less-gives_before [] (y ∷ ys) e = inl (y, ys, refl)
less-gives_before (x ∷ xs) [] e = absurd (cc)
less-gives_before (x ∷ xs) (y ∷ ys) e = go (nat_cmp x y) (ranked x y _ refl) e (less-gives_before xs ys)
  where
    go : (o : Ordering) → MatchOrdering o (x < y) (x ≡ y) (y < x) → ordering_then o (slice_cmp nat_cmp xs ys) ≡ Less
        → (slice_cmp nat_cmp xs ys ≡ Less → IsBefore xs ys) → IsBefore (x ∷ xs) (y ∷ ys)
    go Less lt e rest = inr ([], x, y, xs, ys, refl, refl, lt)
    go Equal same e rest = rw same (longer y xs ys (rest e))
    go Greater gt e rest = absurd (cc)

equal-gives_same : (a b : List ℕ) → slice_cmp nat_cmp a b ≡ Equal → a ≡ b
equal-gives_same a b e = (bytes_decides a b).0 (texts_ties a b ∙ ap is_eq e)

same-gives_equal : (a b : List ℕ) → a ≡ b → slice_cmp nat_cmp a b ≡ Equal
same-gives_equal a b e = rw e (tied_itself nat_list_cmp_total b)

greater-gives_before : (a b : List ℕ) → slice_cmp nat_cmp a b ≡ Greater → IsBefore b a
greater-gives_before a b e = less-gives_before b a (nat_list_cmp_total.antisymm b a ∙ ap ordering_reverse e)

before-gives_greater : (a b : List ℕ) → IsBefore b a → slice_cmp nat_cmp a b ≡ Greater
before-gives_greater a b is = nat_list_cmp_total.antisymm a b ∙ ap ordering_reverse (before-gives_less b a is)

-- what each result says
pub order-says : (a b : List ℕ) (o : Ordering) → o ≡ slice_cmp nat_cmp a b → MatchOrdering o (IsBefore a b) (a ≡ b) (IsBefore b a)
order-says a b Less e = less-gives_before a b (sym e)
order-says a b Equal e = equal-gives_same a b (sym e)
order-says a b Greater e = greater-gives_before a b (sym e)

-- the order is total and transitive, and no text comes before itself
pub before-total : (a b : List ℕ) → IsBefore a b ⊎ (a ≡ b) ⊎ IsBefore b a
before-total a b = go (slice_cmp nat_cmp a b) (order-says a b _ refl)
  where
    go : (o : Ordering) → MatchOrdering o (IsBefore a b) (a ≡ b) (IsBefore b a) → IsBefore a b ⊎ (a ≡ b) ⊎ IsBefore b a
    go Less is = inl is
    go Equal is = inr (inl is)
    go Greater is = inr (inr is)

pub before-trans : (a b c : List ℕ) → IsBefore a b → IsBefore b c → IsBefore a c
before-trans a b c x y = less-gives_before a c (nat_list_cmp_total.trans a b c (before-gives_less a b x) (before-gives_less b c y))

pub before-itself : (a : List ℕ) → IsBefore a a → ⊥
before-itself a is = absurd (cc (before-gives_less a a is, same-gives_equal a a refl))

-- of two texts no more than one comes before the other
pub before-one : (a b : List ℕ) → IsBefore a b → IsBefore b a → ⊥
before-one a b first second = before-itself a (before-trans a b a first second)

-- what the bytes say of the characters
pub bytes-less : (a b : List ℕ) → (slice_cmp nat_cmp (bytes a) (bytes b) ≡ Less) ↔ IsBefore a b
bytes-less a b = rw order-bytes (less-gives_before a b, before-gives_less a b)

pub bytes-equal : (a b : List ℕ) → (slice_cmp nat_cmp (bytes a) (bytes b) ≡ Equal) ↔ (a ≡ b)
bytes-equal a b = rw order-bytes (equal-gives_same a b, same-gives_equal a b)

pub bytes-greater : (a b : List ℕ) → (slice_cmp nat_cmp (bytes a) (bytes b) ≡ Greater) ↔ IsBefore b a
bytes-greater a b = rw order-bytes (greater-gives_before a b, before-gives_greater a b)

pub ruleset order_of_bytes = (order-bytes, bytes-less, bytes-equal, bytes-greater)
