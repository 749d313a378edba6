use Rattle.std.proofs.Common.{◌≡◌}
use Rattle.arraystring_recipes.specs.Chains.{compact}
use Rattle.arraystring_recipes.proofs.chains.try_compact.Given as goal

abbrev pub invariant-loop-ch : goal.invariant-loop-ch
invariant-loop-ch g l = l.line.text ≡ compact l.yielded
