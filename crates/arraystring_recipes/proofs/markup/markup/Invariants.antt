use Rattle.std.proofs.Common.{◌≡◌, ◌*◌, ◌≤◌, flat_map, length}
use Rattle.arraystring.specs.Text.{size}
use Rattle.arraystring_recipes.specs.Markup.{entity}
use Rattle.arraystring_recipes.proofs.markup.markup.Given as goal

abbrev pub invariant-loop-ch : goal.invariant-loop-ch
invariant-loop-ch g l = (l.line.text ≡ flat_map entity l.yielded) × (size l.line.text ≤ 5 * length l.yielded)
