use Rattle.arraystring_base.specs.Text.{cap}
use Rattle.arraystring_core.specs.Taken.{joined_pieces}
use Rattle.arraystring_core.proofs.TakenLemmas.{IsAdded}
use Rattle.arraystring_core.proofs.array_string.ArrayString.push_strs_until_full.Given as goal

abbrev pub invariant-loop-piece : goal.invariant-loop-piece
invariant-loop-piece g l = record {
  can : (goal.iterator-loop-piece g).can_next l.piece-iterator;
  ends : (goal.iterator-loop-piece g).is_finite l.piece-iterator;
  added : IsAdded joined_pieces l.fn.self.text l.self.text (cap g.row.N) l.yielded;
}
