use Rattle.std.proofs.Common.{◌∙◌, sym, refl}
use Rattle.arraystring_core.proofs.array_string.boundary.is_char_boundary.Goals as goal

pub returns-then-is_boundary : goal.returns-then-is_boundary
returns-then-is_boundary g c =
    let is = sym c.is_boundary.ensures ∙ c.if-is_boundary.true in
    (λ _. is, λ _. refl)

pub returns-else-is_boundary : goal.returns-else-is_boundary
returns-else-is_boundary g c =
    let not = sym c.is_boundary.ensures ∙ c.if-is_boundary.false in
    (λ e. cc, λ is. cc)
