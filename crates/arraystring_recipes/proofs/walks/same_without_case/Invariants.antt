use Rattle.std.proofs.Common.{◌≡◌, IsUtf8, length, chars}
use Rattle.std.specs.Str.{bytes_eq}
use Rattle.std.specs.Str.Iter.{chars_rest}
use Rattle.arraystring_recipes.specs.Walks.{folded}
use Rattle.arraystring_recipes.proofs.walks.same_without_case.Given as goal

abbrev pub invariant-loop-x : goal.invariant-loop-x
invariant-loop-x l =
    IsUtf8 (chars_rest l.left)
    × IsUtf8 (chars_rest l.right)
    × (bytes_eq (folded (chars (chars_rest l.left))) (folded (chars (chars_rest l.right))) ≡ bytes_eq (folded (chars l.a)) (folded (chars l.b)))

abbrev pub decreases-loop-x : goal.decreases-loop-x
decreases-loop-x l = length (chars_rest l.left)
