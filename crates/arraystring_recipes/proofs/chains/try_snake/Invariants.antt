use Rattle.std.proofs.Common.{◌≡◌, map}
use Rattle.arraystring_recipes.specs.Chains.{underscored}
use Rattle.arraystring_recipes.proofs.chains.try_snake.Given as goal

abbrev pub invariant-loop-ch : goal.invariant-loop-ch
invariant-loop-ch g l = l.line.text ≡ map underscored l.yielded
