use Rattle.std.proofs.Common.{◌≡◌, length, take}
use Rattle.arraystring_recipes.proofs.letters.keep_first.Given as goal

abbrev pub invariant-loop-text : goal.invariant-loop-text
invariant-loop-text l = take l.count l.text.text ≡ take l.count l.initial.text.text

abbrev pub decreases-loop-text : goal.decreases-loop-text
decreases-loop-text l = length l.text.text
