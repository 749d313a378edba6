use Rattle.std.proofs.Common.{◌≡◌, ◌++◌, replicate}
use Rattle.std.specs.Str.{chars}
use Rattle.arraystring_recipes.proofs.fills.filled_up.Given as goal

abbrev pub invariant-loop : goal.invariant-loop
invariant-loop g l = l.column.text ≡ chars l.text ++ replicate l.counter l.fill
