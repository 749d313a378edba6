use Rattle.std.proofs.Common.{◌≡◌, flat_map}
use Rattle.arraystring_recipes.specs.Escapes.{escaped}
use Rattle.arraystring_recipes.proofs.escapes.escape.Given as goal

abbrev pub invariant-loop-ch : goal.invariant-loop-ch
invariant-loop-ch g l = l.line.text ≡ flat_map escaped l.yielded
