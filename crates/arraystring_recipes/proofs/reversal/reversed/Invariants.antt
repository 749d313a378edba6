use Rattle.std.proofs.Common.{◌≡◌, ◌+◌, ◌≤◌, ◌++◌, length, reverse}
use Rattle.arraystring.specs.Text.{cap, size}
use Rattle.arraystring_recipes.proofs.reversal.reversed.Given as goal

abbrev pub invariant-loop-last : goal.invariant-loop-last
invariant-loop-last g l =
    (reverse l.fn.text.text ≡ l.line.text ++ reverse l.text.text) × (size l.line.text + size l.text.text ≤ cap g.row.N)

abbrev pub decreases-loop-last : goal.decreases-loop-last
decreases-loop-last g l = length l.text.text
