use Rattle.std.proofs.Common.{◌≡◌, ◌<◌, ℕ, List, [], ◌∷◌, ◌++◌, sym, ap, subst, ◌∙◌, length, arith, rules, IsUtf8, chars}
use Rattle.std.proofs.lemmas.List.{append-nil, nil_from_length}
use Rattle.std.proofs.lemmas.Str.{cons_from_encodes, encodes-chars, encode_same}
use Rattle.std.specs.Char.{encode_utf8}
use Rattle.arraystring.specs.Text.{utf8, IsScalarValue, IsText}
use Rattle.arraystring.proofs.TextLaws.{utf8-is, text-chars, length-utf8, width-bounds}
use Rattle.arraystring_run.proofs.line.only_char.Goals as goal

-- a text that begins with the character c, whether it is c alone or not
module _ (bs rest : List ℕ) (c : ℕ) (is : bs ≡ encode_utf8 c ++ rest) where
  one-char : IsUtf8 bs → length rest ≡ 0 → IsScalarValue c × (bs ≡ utf8 c)
  one-char u none =
      let found = cons_from_encodes (chars bs) rest c (encodes-chars bs u ∙ is) in
      let all : IsText (c ∷ found.0) = subst IsText found.1 (text-chars u) in (
        all.0,
        cc (is, nil_from_length rest none, append-nil (encode_utf8 c), utf8-is c),
      )

  more-chars : 0 < length rest → (d : ℕ) → bs ≡ utf8 d → ⊥
  more-chars some d other =
      let same = encode_same c d rest [] (cc (is, utf8-is d, append-nil (encode_utf8 d))) in
      omega (arith, ap length same.1)

no-char : (bs : List ℕ) → length bs ≡ 0 → (d : ℕ) → bs ≡ utf8 d → ⊥
no-char bs none d is = omega (arith, ap length is, length-utf8 d, width-bounds d)

pub returns-in_err-ch-clause-none : goal.returns-in_err-ch-clause-none
returns-in_err-ch-clause-none c =
    let none : length c.args.text.now ≡ 0 = search rules in
    rw c.from_residual.ensures (λ d scalar is. no-char c.args.text.now none d is)

pub returns-in-Some-clause-none : goal.returns-in-Some-clause-none
returns-in-Some-clause-none c = λ d scalar is.
    more-chars c.args.text.now c.next.new.self.rest.now c.in_ok-ch.ch (sym c.chars-chars.ensures.rest ∙ c.in_ok-ch.ensures.steps.0) (search rules) d is

pub returns-in-None-clause-some : goal.returns-in-None-clause-some
returns-in-None-clause-some c =
    one-char c.args.text.now c.next.new.self.rest.now c.in_ok-ch.ch (sym c.chars-chars.ensures.rest ∙ c.in_ok-ch.ensures.steps.0) c.utf8.text c.in-None.ensures.steps.0.0
