use Rattle.std.proofs.Common.{◌≡◌, true}
use Rattle.arraystring.specs.Loops.{memory, flat_map_with_memory}
use Rattle.arraystring_recipes.specs.Titles.{ends_word, title_piece}
use Rattle.arraystring_recipes.proofs.headings.heading.Given as goal

abbrev pub invariant-loop-ch : goal.invariant-loop-ch
invariant-loop-ch g l = (l.at_start ≡ memory ends_word true l.yielded) × (l.line.text ≡ flat_map_with_memory ends_word title_piece true l.yielded)
