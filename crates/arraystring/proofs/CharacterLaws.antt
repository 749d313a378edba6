-- Laws of single characters, of texts of ASCII, as most literals are, and of one character many times.
use Rattle.std.proofs.Common.{◌≡◌, ℕ, ◌+◌, ◌<◌, ◌≤◌, ◌/◌, List, [], ◌∷◌, ◌++◌, length, take, drop, get_or, arith, true, refl, sym, ap, ◌∙◌, inl, replicate, length-append, length-drop, Option, Some, None, MatchOption, IsUtf8, IsCharBoundary}
use Rattle.std.specs.Char.{is_ascii}
use Rattle.std.specs.List.{list_all, slice_get}
use Rattle.std.specs.Str.{chars}
use Rattle.std.specs.Str.Iter.{chars_rest, chars_steps_back}
use Rattle.std.specs.declared.str.Chars.{Chars}
use Rattle.std.proofs.lemmas.Bool.{and_parts, ltb-true}
use Rattle.std.proofs.lemmas.Bool.Decides.{nat_tests}
use Rattle.std.proofs.lemmas.List.{append-nil, drop_at, get_or-drop, nil_from_length}
use Rattle.std.proofs.lemmas.Str.{chars-nil, cons_from_encodes}
use Rattle.arraystring_base.specs.Text.{IsText, size, width, bytes, utf8, front, back, boundary}
use Rattle.arraystring_base.proofs.TextLaws.{utf8-is, utf8-one, bytes-is, bytes_same, bytes-utf8, bytes-chars, chars-bytes, length-utf8, width-bounds}
use Rattle.arraystring_base.proofs.BoundaryLaws.{back-is, boundary-from_bytes, boundary-is, bytes-back, front-back, front-is}
use Rattle.arraystring_core.specs.Edits.{all_but_last}
use Rattle.arraystring_core.proofs.EditLaws.{all_but_last-push}
use Rattle.arraystring.proofs.LoopLaws.{size-replicate}

-- a character of ASCII takes one byte
pub width-one : (c : ℕ) → c < 128 → width c ≡ 1
unfolding width
width-one c lt = grind (arith, nat_tests)

-- the same with no premise, so that `grind` splits nothing for it: 1 for ASCII, and no more than 4
pub width-low : (c : ℕ) → (1 ≤ width c) × (width c ≤ 4) × (width c ≤ 1 + c / 128)
unfolding width
width-low c = grind (arith, nat_tests)

-- a text of ASCII is its own UTF-8
ascii : (t : List ℕ) → list_all is_ascii t ≡ true → IsText t × (bytes t ≡ t)
ascii [] is = (tt, refl)
ascii (c ∷ t) is =
    let both = and_parts (is_ascii c) (list_all is_ascii t) is in
    let low : c < 128 = ltb-true c 128 both.0 in
    let rest = ascii t both.1 in ((inl (omega arith), rest.0), cc (utf8-one c low, rest.1))

-- so it is the text that its own bytes spell, as those of a literal
pub chars-ascii : (t : List ℕ) → list_all is_ascii t ≡ true → chars t ≡ t
chars-ascii t is = let own = ascii t is in chars-bytes (rw own.1 at (bytes-utf8 t own.0)) (sym own.1)

-- a character of ASCII many times takes as many bytes
pub size-repeated : (n c : ℕ) → c < 128 → size (replicate n c) ≡ n
size-repeated n c lt = rw (size-replicate n c, width-one c lt) (omega arith)

-- behind a first character of ASCII is a boundary, which parts it from the others
pub first-boundary : (t : List ℕ) (c : ℕ) → slice_get t 0 ≡ Some c → c < 128
    → (boundary t 1 ≡ true) × (front t 1 ≡ take 1 t) × (back t 1 ≡ drop 1 t)
first-boundary [] c is low = absurd (grind (arith, is))
first-boundary (d ∷ t) c is low =
    let same : d ≡ c = grind (arith, is) in
    let long : size (d ∷ []) ≡ 1 = grind (arith, same, low, width-one) in
    (boundary-is (d ∷ []) t 1 long, front-is (d ∷ []) t 1 long, back-is (d ∷ []) t 1 long)

-- a character begins with no byte that continues one
begins : (c : ℕ) (rest : List ℕ) → 128 ≤ get_or (utf8 c ++ rest) 0 0 → 192 ≤ get_or (utf8 c ++ rest) 0 0
unfolding utf8
begins c rest high = grind (arith, nat_tests)

-- bytes that begin with those of a character spell this character and what the others spell
spelled-first : (t rest : List ℕ) (c : ℕ) → bytes t ≡ utf8 c ++ rest → (es : List ℕ) × (t ≡ c ∷ es) × (bytes es ≡ rest)
spelled-first t rest c e =
    let (es, is, others) = cons_from_encodes t rest c (sym (bytes-is t) ∙ e ∙ ap (λ l. l ++ rest) (utf8-is c)) in
    (es, is, bytes-is es ∙ others)

-- so a character that the bytes spell from an index on begins there, and what they spell behind it comes after it
pub spelled-at : {bs : List ℕ} → IsUtf8 bs → (i c : ℕ) (rest : List ℕ) → drop i bs ≡ utf8 c ++ rest
    → (boundary (chars bs) i ≡ true) × ((es : List ℕ) × (back (chars bs) i ≡ c ∷ es) × (bytes es ≡ rest))
spelled-at {bs} u i c rest e =
    let within : i < length bs =
    omega (arith, ap length e, length-drop i bs, length-append (utf8 c) rest, length-utf8 c, width-bounds c) in
    let first : get_or bs i 0 ≡ get_or (utf8 c ++ rest) 0 0 = grind (arith, e, get_or-drop i bs 0 0) in
    let at : IsCharBoundary bs i = (omega (arith, within), λ lt high. rw first (begins c rest (rw first at high))) in
    let b = boundary-from_bytes bs i u at in
    (b, spelled-first (back (chars bs) i) rest c (sym (bytes-back (chars bs) i b) ∙ ap (drop i) (bytes-chars u) ∙ e))

-- bytes that end with those of a character spell a text that ends with it
last-is : {bs : List ℕ} → IsUtf8 bs → (before : List ℕ) (c : ℕ) → bs ≡ before ++ utf8 c
    → chars bs ≡ all_but_last (chars bs) ++ c ∷ []
last-is {bs} u before c e =
    let i = length before in
    let behind = (spelled-at u i c [] (rw append-nil (ap (drop i) e ∙ drop_at before (utf8 c) i refl))).1 in
    let none : behind.0 ≡ [] = bytes_same behind.2 in
    let parts : chars bs ≡ front (chars bs) i ++ c ∷ [] =
    sym (front-back (chars bs) i) ∙ ap (λ l. front (chars bs) i ++ l) (behind.1 ∙ ap (λ l. c ∷ l) none) in
    parts ∙ ap (λ l. l ++ c ∷ []) (sym (ap all_but_last parts ∙ all_but_last-push (front (chars bs) i) c))

-- `text.chars().next_back()`: the last character, or `None` of the empty text
pub next_back-last : {bs : List ℕ} → IsUtf8 bs → (last : Option ℕ) (from left : Chars) → chars_rest from ≡ bs
    → chars_steps_back from last left → MatchOption last (chars bs ≡ []) (λ c. chars bs ≡ all_but_last (chars bs) ++ c ∷ [])
next_back-last {bs} u None from left rest step = ap chars (nil_from_length bs (omega (arith, ap length rest, step.0))) ∙ chars-nil
next_back-last {bs} u (Some c) from left rest step =
    last-is u (chars_rest left) c (sym rest ∙ step ∙ ap (λ l. chars_rest left ++ l) (sym (utf8-is c)))
