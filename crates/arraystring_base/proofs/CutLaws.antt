-- Laws of the cut.
use Rattle.std.proofs.Common.{◌≡◌, ℕ, ◌+◌, ◌-◌, ◌<◌, ◌≤◌, List, [], ◌∷◌, ◌++◌, length, refl, sym, ap, ◌∙◌, arith, IsUtf8, chars, length-append}
use Rattle.std.proofs.lemmas.Bool.Decides.{nat_tests}
use Rattle.std.proofs.lemmas.List.{append-nil}
use Rattle.arraystring_base.specs.Text.{width, size, bytes, cut, front, back, IsText, IsPrefix, IsLongestFitting}
use Rattle.arraystring_base.proofs.TextLaws.{size-borrowed, bytes-chars}

-- p is the cut of p ++ q, if the first character of q would pass n: each of p fits, so `grind` takes it and cuts the rest
pub cut-is : (p q : List ℕ) (n : ℕ) → size p ≤ n → ((c : ℕ) (es : List ℕ) → q ≡ c ∷ es → n < size p + width c)
    → cut (p ++ q) n ≡ p
cut-is [] [] n le wide = refl
cut-is [] (c ∷ es) n le wide = grind (arith, nat_tests, wide c es refl)
cut-is (c ∷ p) q n le wide =
    grind (arith, nat_tests, cut-is p q (n - width c) (omega arith) (λ d es e. omega (arith, wide d es e)))

-- a text that fits is its cut
pub cut-all : {t : List ℕ} {n : ℕ} → size t ≤ n → cut t n ≡ t
cut-all {t} {n} le = rw append-nil at (cut-is t [] n le (λ c es e. cc))

pub cut-borrowed : (bs : List ℕ) (n : ℕ) → IsUtf8 bs → length bs ≤ n → bs ≡ bytes (cut (chars bs) n)
cut-borrowed bs n u le = let fits : size (chars bs) ≤ n = omega (arith, size-borrowed u) in rw (cut-all fits, bytes-chars u) refl

-- the cut takes at most n bytes: the first character fits and leaves room for the rest, or the cut is empty
pub cut-fits : (t : List ℕ) (n : ℕ) → size (cut t n) ≤ n
cut-fits [] n = omega arith
cut-fits (c ∷ cs) n = grind (arith, nat_tests, cut-fits cs (n - width c))

-- the cut of a text is a text: it begins with the same character, or is empty
pub text-cut : (t : List ℕ) (n : ℕ) → IsText t → IsText (cut t n)
text-cut [] n is = tt
text-cut (c ∷ cs) n is = grind (arith, nat_tests, text-cut cs (n - width c) is.1)

-- a cut of a longer cut is the cut: what fits at n fits at m, and if the first character does not fit at n, both are empty
pub cut-cut : (t : List ℕ) {m n : ℕ} → n ≤ m → cut (cut t m) n ≡ cut t n
cut-cut [] le = refl
cut-cut (c ∷ cs) {m} {n} le =
    let rest : cut (cut cs (m - width c)) (n - width c) ≡ cut cs (n - width c) = cut-cut cs (omega arith) in
    grind (arith, nat_tests, rest)

-- a prefix that fits is kept: so does its first character, and the rest of it fits into what that leaves
pub cut-past_part : (p q : List ℕ) (n : ℕ) → size p ≤ n → cut (p ++ q) n ≡ p ++ cut q (n - size p)
cut-past_part [] q n le = grind arith
cut-past_part (c ∷ p) q n le =
    let left : n - width c - size p ≡ n - (width c + size p) = omega arith in
    grind (arith, nat_tests, cut-past_part p q (n - width c) (omega arith))

-- what does not fit hides all that follows: the rest decides if the first character fits, and else both cuts are empty
pub cut-past : (p q : List ℕ) (n : ℕ) → n < size p → cut (p ++ q) n ≡ cut p n
cut-past [] q n lt = absurd (omega arith)
cut-past (c ∷ p) q n lt =
    let rest : width c ≤ n → cut (p ++ q) (n - width c) ≡ cut p (n - width c) =
    λ fits. cut-past p q (n - width c) (omega arith) in
    grind (arith, nat_tests, rest)

-- the cut and what is behind it are the text: the first character is in both tests, and so in one of the two parts
pub front-back : (t : List ℕ) (i : ℕ) → front t i ++ back t i ≡ t
front-back [] i = refl
front-back (c ∷ cs) i = grind (arith, nat_tests, front-back cs (i - width c))

-- the cut is the longest prefix that fits
cut-prefix : (t : List ℕ) (n : ℕ) → IsPrefix (cut t n) t
cut-prefix t n = (back t n, sym (front-back t n))

cut-longest : (t : List ℕ) (n : ℕ) (q : List ℕ) → IsPrefix q t → size q ≤ n → IsPrefix q (cut t n)
cut-longest t n q prefix le = (cut prefix.0 (n - size q), rw prefix.1 (cut-past_part q prefix.0 n le))

parts-same : (p q : List ℕ) → IsPrefix p q → IsPrefix q p → p ≡ q
parts-same p q over under = go over.0 over.1
  where
    go : (r : List ℕ) → q ≡ p ++ r → p ≡ q
    go [] e = sym (e ∙ append-nil p)
    go (x ∷ r) e = absurd (omega (arith, ap length e, ap length under.1, length-append {A = ℕ}))

pub cut-is_longest : (t : List ℕ) (n : ℕ) → IsLongestFitting (cut t n) t n
cut-is_longest t n = record { prefix = cut-prefix t n; fits = cut-fits t n; longest = cut-longest t n }

pub longest-is_cut : {t p : List ℕ} {n : ℕ} → IsLongestFitting p t n → p ≡ cut t n
longest-is_cut {t} {p} {n} is =
    parts-same p (cut t n) (cut-longest t n p is.prefix is.fits) (is.longest (cut t n) (cut-prefix t n) (cut-fits t n))

pub ruleset cut_cut = (cut-cut)
