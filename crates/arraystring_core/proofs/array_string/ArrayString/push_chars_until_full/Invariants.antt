use Rattle.arraystring_base.specs.Text.{cap}
use Rattle.arraystring_core.proofs.TakenLemmas.{IsAdded, chars_text}
use Rattle.arraystring_core.proofs.array_string.ArrayString.push_chars_until_full.Given as goal

abbrev pub invariant-loop-ch : goal.invariant-loop-ch
invariant-loop-ch g l = record {
  can : (goal.iterator-loop-ch g).can_next l.ch-iterator;
  ends : (goal.iterator-loop-ch g).is_finite l.ch-iterator;
  added : IsAdded chars_text l.fn.self.text l.self.text (cap g.row.N) l.yielded;
}
