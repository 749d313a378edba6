use Rattle.std.proofs.Common.{◌≡◌, flat_map, take}
use Rattle.arraystring_recipes.specs.Words.{line_of}
use Rattle.arraystring_recipes.proofs.words.lines.Given as goal

abbrev pub invariant-loop-word : goal.invariant-loop-word
invariant-loop-word g l = l.all.text ≡ flat_map line_of (take l.word-index l.words)
