use Rattle.std.proofs.Common.{◌≡◌, ℕ, ◌<◌, Bool, List, [], ◌∷◌, ◌++◌, length, sym, ap, ◌∙◌, arith, rules, true, chars, IsUtf8}
use Rattle.std.proofs.lemmas.Str.{chars_past_char}
use Rattle.std.specs.Char.{encode_utf8, len_utf8}
use Rattle.arraystring_base.specs.Text.{bytes, size, back, boundary}
use Rattle.arraystring_base.proofs.TextLaws.{width-is, width-bounds, chars-bytes, empty-size, size-is}
use Rattle.arraystring_base.proofs.BoundaryLaws.{boundary-is, back-is}
use Rattle.arraystring_core.specs.Edits.{without_leading}
use Rattle.arraystring_core.proofs.TrimLemmas.{without_leading-passes, without_leading-stops}
use Rattle.arraystring_core.proofs.array_string.ArrayString.trim_start_matches.Goals as goal
use Rattle.arraystring_core.proofs.array_string.ArrayString.trim_start_matches.Goals.{in-Some+then-not-drops, in_default}

-- a text that begins with the bytes of a character
module _ (text : List ℕ) {borrowed : List ℕ} (rest : List ℕ) (ch : ℕ) (u : IsUtf8 borrowed)
    (is : borrowed ≡ bytes text) (begins : borrowed ≡ encode_utf8 ch ++ rest) where
  first : text ≡ ch ∷ chars rest
  first = sym (chars-bytes u is) ∙ chars_past_char borrowed rest ch u begins

  -- the index after it, and the text from there on
  module _ {k : ℕ} (wide : k ≡ len_utf8 ch) where
    long : size (ch ∷ []) ≡ k
    long = omega (arith, width-is ch)

    second-boundary : boundary text k ≡ true
    second-boundary = ap (λ t. boundary t k) first ∙ boundary-is (ch ∷ []) (chars rest) k long

    -- which is left once the character is dropped
    module _ {left : List ℕ} (dropped : left ≡ back text k) where
      left-is : left ≡ chars rest
      left-is = dropped ∙ ap (λ t. back t k) first ∙ back-is (ch ∷ []) (chars rest) k long

      left-smaller : size left < size text
      left-smaller = omega (arith, ap size first, ap size left-is, width-bounds ch)

      left-passes : (passes : ℕ → Bool) → passes ch ≡ true → without_leading passes left ≡ without_leading passes text
      left-passes passes passed =
          ap (without_leading passes) left-is
          ∙ sym (ap (without_leading passes) first ∙ without_leading-passes passes ch (chars rest) passed)

pub drop_front-requires : goal.drop_front-requires
drop_front-requires g c =
    let begins = sym c.chars.ensures.rest ∙ c.in-Some.ensures.steps.0 in
    (search rules, second-boundary _ _ _ c.as_str.utf8 c.as_str.ensures.bytes begins c.len_utf8.ensures.value)

pub loop-ch-smaller : goal.loop-ch-smaller
loop-ch-smaller g c =
    let begins = sym c.chars.ensures.rest ∙ c.in-Some.ensures.steps.0 in
    left-smaller _ _ _ c.as_str.utf8 c.as_str.ensures.bytes begins c.len_utf8.ensures.value c.drop_front.ensures

pub loop-ch-preserved : goal.loop-ch-preserved
loop-ch-preserved g c = λ passes agrees.
    let begins = sym c.chars.ensures.rest ∙ c.in-Some.ensures.steps.0 in
    left-passes _ _ _ c.as_str.utf8 c.as_str.ensures.bytes begins c.len_utf8.ensures.value c.drop_front.ensures passes
    (sym (agrees.at c.in-Some.ch c.drops.result c.drops.ensures) ∙ c.if-not-drops.false)
    ∙ c.loop-ch.invariant passes agrees

pub returns : goal.returns
returns g c = λ passes agrees.
    let text = c.loop-ch.self.text in
    let borrowed = c.as_str.ensures.bytes in
    let begun : without_leading passes text ≡ text = elim c.match-next.branch [
      | in-Some+then-not-drops w ↦
          let starts = first _ _ _ c.as_str.utf8 borrowed (sym c.chars.ensures.rest ∙ w.in-Some.ensures.steps.0) in
          without_leading-stops passes text _ _ starts
          (sym (agrees.at w.in-Some.ch w.drops.result w.drops.ensures) ∙ w.if-not-drops.true)
      | in_default w ↦
          let over = ap length (sym borrowed ∙ sym c.chars.ensures.rest) ∙ w.in_default.ensures.steps.0.0 in
          let none = empty-size (size-is text ∙ over) in
          ap (without_leading passes) none ∙ sym none
    ] in
    sym begun ∙ c.loop-ch.invariant passes agrees
