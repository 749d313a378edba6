use Rattle.std.proofs.Common.{◌≡◌, ℕ, List, ◌∷◌, length, drop, length-drop, arith, sym, ap, ◌∙◌}
use Rattle.std.specs.Prelude.{slice_index}
use Rattle.arraystring_base.specs.Text.{back}
use Rattle.arraystring_base.proofs.TextLaws.{size-is}
use Rattle.arraystring_base.proofs.BoundaryLaws.{boundary-to_bytes, first-char, next-char}
use Rattle.arraystring_core.proofs.array_string.ArrayString.char_and_width_at.Given as given
use Rattle.arraystring_core.proofs.array_string.ArrayString.char_and_width_at.Goals as goal

pub text_from_boundary-requires : goal.text_from_boundary-requires
text_from_boundary-requires g c =
    boundary-to_bytes c.args.self.now.text c.as_str.result.now c.args.at c.as_str.utf8 (sym c.as_str.ensures.bytes) c.requires.boundary

pub first_char_and_width-requires : goal.first_char_and_width-requires
first_char_and_width-requires g c =
    omega (arith, size-is c.args.self.now.text, ap length c.as_str.ensures.bytes, ap length c.text_from_boundary.ensures, length-drop c.args.at c.as_str.result.now)

-- the text goes on from there with the character
goes_on : (g : given.Over) (c : goal.After-first_char_and_width g)
    → (rest : List ℕ) × (back c.args.self.now.text c.args.at ≡ c.first_char_and_width.result.0 ∷ rest)
goes_on g c =
    let shown = ap (drop c.args.at) (sym c.as_str.ensures.bytes) ∙ sym c.text_from_boundary.ensures ∙ c.first_char_and_width.ensures.first.1 in
    first-char c.args.self.now.text c.args.at c.requires.boundary c.first_char_and_width.result.0 c.first_char_and_width.ensures.first.0 shown

pub returns-clause-first : goal.returns-clause-first
returns-clause-first g c = sym (ap (λ l. slice_index l 0) (goes_on g c).1)

pub returns-clause-next : goal.returns-clause-next
returns-clause-next g c =
    let on = goes_on g c in (next-char c.args.self.now.text c.args.at c.requires.boundary c.first_char_and_width.result.0 on.0 on.1).0

pub returns-clause-rest : goal.returns-clause-rest
returns-clause-rest g c =
    let on = goes_on g c in
    (next-char c.args.self.now.text c.args.at c.requires.boundary c.first_char_and_width.result.0 on.0 on.1).1 ∙ sym (ap (drop 1) on.1)
