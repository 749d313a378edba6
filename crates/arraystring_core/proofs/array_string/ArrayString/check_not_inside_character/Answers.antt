use Rattle.std.proofs.Common.{refl, sym, ◌∙◌}
use Rattle.arraystring_core.proofs.EditLaws.{inside-so}
use Rattle.arraystring_core.proofs.array_string.ArrayString.check_not_inside_character.Goals as goal

pub returns-then-not-is_boundary : goal.returns-then-not-is_boundary
returns-then-not-is_boundary g c within =
    rw (inside-so _ _ within (sym c.is_boundary.ensures ∙ c.if-not-is_boundary.true)) refl
