use Rattle.std.proofs.Common.{◌≡◌, length}
use Rattle.std.specs.Char.{is_ascii_digit}
use Rattle.std.specs.List.{filter}
use Rattle.arraystring_recipes.proofs.counts.count_digits.Given as goal

abbrev pub invariant-loop-ch : goal.invariant-loop-ch
invariant-loop-ch g l = l.count ≡ length (filter is_ascii_digit l.yielded)
