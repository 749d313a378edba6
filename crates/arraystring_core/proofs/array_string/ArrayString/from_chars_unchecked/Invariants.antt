use Rattle.std.proofs.Common.{◌≡◌}
use Rattle.arraystring_core.proofs.array_string.ArrayString.from_chars_unchecked.Given as goal

abbrev pub invariant-loop-ch : goal.invariant-loop-ch
invariant-loop-ch g l = record {
  can : (goal.iterator-loop-ch g).can_next l.ch-iterator;
  ends : (goal.iterator-loop-ch g).is_finite l.ch-iterator;
  text : l.made.text ≡ l.yielded;
}
