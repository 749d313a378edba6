use Rattle.std.proofs.Common.{◌-◌}
use Rattle.arraystring_core.proofs.RetainLemmas.{IsPartRetained}
use Rattle.arraystring_core.proofs.array_string.retain.retain_in_array.Given as goal

abbrev pub invariant-loop-read : goal.invariant-loop-read
invariant-loop-read g l =
    IsPartRetained (goal.F-pre g) (goal.F-step g) g.row.N l.fn.array l.fn.f l.offset l.size l.array l.f l.kept l.read

abbrev pub decreases-loop-read : goal.decreases-loop-read
decreases-loop-read g l = l.size - l.read
