use Rattle.std.proofs.Common.{◌≡◌, ◌++◌, flat_map, take}
use Rattle.arraystring_recipes.specs.Words.{path_step}
use Rattle.arraystring_recipes.proofs.words.path.Given as goal

abbrev pub invariant-loop-word : goal.invariant-loop-word
invariant-loop-word g l = l.all.text ≡ l.initial.all.text ++ flat_map path_step (take l.word-index l.rest)
