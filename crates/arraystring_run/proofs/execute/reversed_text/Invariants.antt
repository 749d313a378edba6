use Rattle.std.proofs.Common.{◌≡◌, ◌≤◌, ◌+◌, ◌++◌, length, reverse}
use Rattle.arraystring.specs.Text.{size, cap}
use Rattle.arraystring_run.proofs.execute.reversed_text.Given as goal

abbrev pub invariant-loop-ch : goal.invariant-loop-ch
invariant-loop-ch g l = record {
  reversed : l.text.text ++ reverse l.removed.left ≡ reverse l.fn.removed.left;
  fits : size l.text.text + size l.removed.left ≤ cap g.row.N;
}

abbrev pub decreases-loop-ch : goal.decreases-loop-ch
decreases-loop-ch g l = length l.removed.left
