use Rattle.std.proofs.Common.{◌≡◌, flat_map, take}
use Rattle.arraystring_recipes.specs.Words.{spaced}
use Rattle.arraystring_recipes.proofs.words.filled.Given as goal

abbrev pub invariant-loop-index : goal.invariant-loop-index
invariant-loop-index g l = l.line.text ≡ flat_map spaced (take l.index l.words)
