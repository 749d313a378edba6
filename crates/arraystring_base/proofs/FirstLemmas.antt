-- The first character of a text, by the bytes at its start.
use Rattle.std.proofs.Common.{◌≡◌, ℕ, ◌+◌, ◌*◌, ◌<◌, ◌≤◌, ◌⊎◌, List, [], ◌∷◌, ◌++◌, length, get_or, refl, sym, subst, arith, IsUtf8, chars}
use Rattle.std.specs.Char.{IsScalar}
use Rattle.std.proofs.lemmas.Bool.Decides.{nat_tests}
use Rattle.arraystring_base.specs.Text.{utf8, bytes}
use Rattle.arraystring_base.proofs.TextLaws.{bytes-chars, text-chars, scalar-is}

-- the first of n bytes are those of the character c
abbrev Spell : ℕ → ℕ → ℕ → ℕ → ℕ → ℕ → Type 0
Spell first second third fourth n c =
    (first < 0x80) × (c ≡ first)
    ⊎ (0xC0 ≤ first) × (first < 0xE0) × (0x80 ≤ second) × (2 ≤ n) × (0x80 ≤ c) × (c < 0x800)
    × (c + 0xC0 * 64 + 0x80 ≡ first * 64 + second)
    ⊎ (0xE0 ≤ first) × (first < 0xF0) × (0x80 ≤ second) × (0x80 ≤ third) × (3 ≤ n) × (0x800 ≤ c) × (c < 0x1_0000)
    × (c + 0xE0 * 4096 + 0x80 * 64 + 0x80 ≡ first * 4096 + second * 64 + third)
    ⊎ (0xF0 ≤ first) × (0x80 ≤ second) × (0x80 ≤ third) × (0x80 ≤ fourth) × (4 ≤ n) × (0x1_0000 ≤ c)
    × (c + 0xF0 * 262144 + 0x80 * 4096 + 0x80 * 64 + 0x80 ≡ first * 262144 + second * 4096 + third * 64 + fourth)

abbrev BeginsWith : List ℕ → ℕ → Type 0
BeginsWith bs c = Spell (get_or bs 0 0) (get_or bs 1 0) (get_or bs 2 0) (get_or bs 3 0) (length bs) c

-- `grind` takes the four widths, and reads the first bytes of each
begins-with : (c : ℕ) (xs : List ℕ) → BeginsWith (utf8 c ++ xs) c
unfolding utf8
begins-with c xs = grind (arith, nat_tests)

first-split : (t : List ℕ) → 0 < length (bytes t) → (c : ℕ) × (rest : List ℕ) × (t ≡ c ∷ rest)
first-split [] some = absurd (omega arith)
first-split (c ∷ rest) some = (c, rest, refl)

-- bytes of a text begin with those of a character
pub first_bytes : (bs : List ℕ) → IsUtf8 bs → 0 < length bs
    → (c : ℕ) × (rest : List ℕ) × (bs ≡ utf8 c ++ rest) × IsScalar c × BeginsWith bs c
first_bytes bs u some =
    let (c, behind, split) = first-split (chars bs) (rw (bytes-chars u) some) in
    let spelled : bs ≡ utf8 c ++ bytes behind = rw split at (sym (bytes-chars u)) in
    let begins = subst (λ l. BeginsWith l c) (sym spelled) (begins-with c (bytes behind)) in
    (c, bytes behind, spelled, scalar-is c (rw split at (text-chars u)).0, begins)
