use Rattle.std.proofs.Common.{◌≡◌, ◌*◌, ◌≤◌, true, length}
use Rattle.arraystring.specs.Loops.{memory, flat_map_with_memory}
use Rattle.arraystring.specs.Text.{size}
use Rattle.arraystring_recipes.specs.Markup.{not_first, hyphened_piece}
use Rattle.arraystring_recipes.proofs.markup.hyphened.Given as goal

abbrev pub invariant-loop-ch : goal.invariant-loop-ch
invariant-loop-ch g l =
    (l.is_first ≡ memory not_first true l.yielded)
    × (l.line.text ≡ flat_map_with_memory not_first hyphened_piece true l.yielded)
    × (size l.line.text ≤ 5 * length l.yielded)
