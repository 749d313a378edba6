use Rattle.std.proofs.Common.{◌≡◌, ℕ, ◌+◌, Bool, List, ◌++◌, ◌∷◌, [], length, sym, ap, ◌∙◌, refl, arith, rules, true}
use Rattle.arraystring_base.specs.Text.{size, width, front}
use Rattle.arraystring_base.proofs.TextLaws.{width-bounds}
use Rattle.arraystring_core.specs.Edits.{without_trailing}
use Rattle.arraystring_core.proofs.EndLemmas.{pushed-length, last-parts, last-size, last-boundary, last-front}
use Rattle.arraystring_core.proofs.TrimLemmas.{without_trailing-passes, without_trailing-stops}
use Rattle.arraystring_core.proofs.array_string.ArrayString.trim_end_matches.Goals as goal
use Rattle.arraystring_core.proofs.array_string.ArrayString.trim_end_matches.Goals.{in-Some+then-not-drops, in_default}

-- what is left of a text once the last character that was found in it is dropped
module _ {text seen left : List ℕ} {ch start : ℕ} (same : seen ≡ text)
    (found : (before : List ℕ) × (seen ≡ before ++ ch ∷ []) × (size before ≡ start)) (kept : left ≡ front text start) where
  left-size : size text ≡ size left + width ch
  left-size = omega (arith, found.2, ap size (last-front same found kept), last-size same found)

  left-length : length text ≡ length left + 1
  left-length = rw (last-front same found kept) (pushed-length text _ ch (last-parts same found))

  left-passes : (passes : ℕ → Bool) → passes ch ≡ true → without_trailing passes left ≡ without_trailing passes text
  left-passes passes passed =
      ap (without_trailing passes) (last-front same found kept)
      ∙ sym (ap (without_trailing passes) (last-parts same found) ∙ without_trailing-passes passes found.0 ch passed)

pub loop-start-init : goal.loop-start-init
loop-start-init g c =
    record { same = λ passes agrees. refl; looked = omega arith; few = omega arith; fits = omega arith; least = omega arith; counted = omega arith; moved = refl }

pub last_char_with_start-requires : goal.last_char_with_start-requires
last_char_with_start-requires g c = omega arith

pub overflow_cast-start : goal.overflow_cast-start
overflow_cast-start g c =
    omega (arith, last-size c.as_str.ensures.chars c.in-Some.ensures.some, c.as_str.ensures.fits)

pub set_len-requires : goal.set_len-requires
set_len-requires g c = (search rules, last-boundary c.as_str.ensures.chars c.in-Some.ensures.some)

pub loop-start-smaller : goal.loop-start-smaller
loop-start-smaller g c =
    let sizes = left-size c.as_str.ensures.chars c.in-Some.ensures.some c.set_len.ensures in
    omega (arith, width-bounds c.in-Some.ch)

pub loop-start-preserved : goal.loop-start-preserved
loop-start-preserved g c =
    let ch = c.in-Some.ch in
    let found = c.in-Some.ensures.some in
    let inv = c.loop-start.invariant in
    let ensured = c.last_char_with_start.ensures in
    let same = c.as_str.ensures.chars in
    let sizes = left-size same found c.set_len.ensures in
    let lengths = left-length same found c.set_len.ensures in
    record {
      same = λ passes agrees.
          left-passes same found c.set_len.ensures passes (sym (agrees.at ch c.drops.result c.drops.ensures) ∙ c.if-not-drops.false)
          ∙ inv.same passes agrees;
      looked = omega (arith, width-bounds ch);
      few = omega arith;
      fits = inv.fits;
      least = omega (arith, rw c.in-Some.is at ensured.least);
      counted = omega arith;
      moved = ensured.moved ∙ inv.moved;
    }

pub returns-clause-text : goal.returns-clause-text
returns-clause-text g c = λ passes agrees.
    let text = c.loop-start.self.text in
    let borrowed = c.as_str.ensures.chars in
    let unchanged : without_trailing passes text ≡ text = elim c.match-last_char_with_start.branch [
      | in-Some+then-not-drops w ↦
          without_trailing-stops passes text _ w.in-Some.ch (last-parts borrowed w.in-Some.ensures.some)
          (sym (agrees.at w.in-Some.ch w.drops.result w.drops.ensures) ∙ w.if-not-drops.true)
      | in_default w ↦
          let none = sym borrowed ∙ (rw w.in_default.is at c.last_char_with_start.ensures.none) in
          ap (without_trailing passes) none ∙ sym none
    ] in
    sym unchanged ∙ c.loop-start.invariant.same passes agrees

pub returns-clause-least : goal.returns-clause-least
returns-clause-least g c =
    elim c.match-last_char_with_start.branch [
      | in-Some+then-not-drops w ↦ omega (arith, w.in-Some.ensures.least)
      | in_default w ↦
          let none = sym c.as_str.ensures.chars ∙ (rw w.in_default.is at c.last_char_with_start.ensures.none) in
          omega (arith, ap length none)
    ]

pub returns-clause-looked : goal.returns-clause-looked
returns-clause-looked g c = omega arith
