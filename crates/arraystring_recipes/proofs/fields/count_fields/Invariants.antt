use Rattle.std.proofs.Common.{◌≡◌, ◌+◌, IsUtf8, length, chars}
use Rattle.arraystring.specs.Fields.{fields}
use Rattle.arraystring_recipes.proofs.fields.count_fields.Given as goal

abbrev pub invariant-loop-behind : goal.invariant-loop-behind
invariant-loop-behind l = IsUtf8 l.left × (l.count + length (fields 0x2C (chars l.left)) ≡ length (fields 0x2C (chars l.line)) + 1)

abbrev pub decreases-loop-behind : goal.decreases-loop-behind
decreases-loop-behind l = length l.left
