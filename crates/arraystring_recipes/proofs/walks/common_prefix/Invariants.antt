use Rattle.std.proofs.Common.{◌≡◌, ◌+◌, IsUtf8, length, chars}
use Rattle.std.specs.Str.Iter.{chars_rest}
use Rattle.arraystring.specs.Text.{size}
use Rattle.arraystring_recipes.specs.Walks.{common}
use Rattle.arraystring_recipes.proofs.walks.common_prefix.Given as goal

abbrev pub invariant-loop-x : goal.invariant-loop-x
invariant-loop-x l =
    IsUtf8 (chars_rest l.left)
    × IsUtf8 (chars_rest l.right)
    × (l.size + size (common (chars (chars_rest l.left)) (chars (chars_rest l.right))) ≡ size (common (chars l.a) (chars l.b)))
    × (l.size + length (chars_rest l.left) ≡ length l.a)

abbrev pub decreases-loop-x : goal.decreases-loop-x
decreases-loop-x l = length (chars_rest l.left)
