use Rattle.std.proofs.Common.{◌≡◌, ◌++◌, IsUtf8, length, chars}
use Rattle.std.specs.Str.Iter.{chars_rest}
use Rattle.arraystring_recipes.specs.Walks.{without_backslashes}
use Rattle.arraystring_recipes.proofs.walks.strip_backslashes.Given as goal

abbrev pub invariant-loop-ch : goal.invariant-loop-ch
invariant-loop-ch g l =
    IsUtf8 (chars_rest l.left)
    × (without_backslashes (chars l.text) ≡ l.line.text ++ without_backslashes (chars (chars_rest l.left)))

abbrev pub decreases-loop-ch : goal.decreases-loop-ch
decreases-loop-ch g l = length (chars_rest l.left)
