use Rattle.std.proofs.Common.{◌≡◌}
use Rattle.std.specs.Char.{is_ascii_digit}
use Rattle.std.specs.List.{list_all}
use Rattle.arraystring_recipes.proofs.counts.is_number.Given as goal

abbrev pub invariant-loop-ch : goal.invariant-loop-ch
invariant-loop-ch l = l.all ≡ list_all is_ascii_digit l.yielded
