use Rattle.std.proofs.Common.{◌≡◌, flat_map}
use Rattle.std.specs.Str.{chars}
use Rattle.arraystring_uses.specs.Quotes.{exchanged}
use Rattle.arraystring_uses.proofs.quotes.replaced.Given as goal

abbrev pub invariant-loop-ch : goal.invariant-loop-ch
invariant-loop-ch g l = l.line.text ≡ flat_map (exchanged l.from (chars l.to)) l.yielded
