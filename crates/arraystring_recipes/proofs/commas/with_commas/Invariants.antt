use Rattle.std.proofs.Common.{◌≡◌, flat_map}
use Rattle.arraystring_recipes.specs.Commas.{piece}
use Rattle.arraystring_recipes.proofs.commas.with_commas.Given as goal

abbrev pub invariant-loop-index : goal.invariant-loop-index
invariant-loop-index g l = l.line.text ≡ flat_map piece l.yielded
