use Rattle.std.proofs.Common.{◌≡◌, ◌∷◌, flat_map}
use Rattle.arraystring_uses.specs.Quotes.{doubled}
use Rattle.arraystring_uses.proofs.quotes.quoted.Given as goal

abbrev pub invariant-loop-ch : goal.invariant-loop-ch
invariant-loop-ch g l = l.line.text ≡ 0x22 ∷ flat_map doubled l.yielded
