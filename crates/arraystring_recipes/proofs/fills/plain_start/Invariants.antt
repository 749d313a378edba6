use Rattle.std.proofs.Common.{◌≡◌, map}
use Rattle.arraystring_recipes.specs.Fills.{plain}
use Rattle.arraystring_recipes.proofs.fills.plain_start.Given as goal

abbrev pub invariant-loop-ch : goal.invariant-loop-ch
invariant-loop-ch g l = l.line.text ≡ map plain l.yielded
