use Rattle.std.proofs.Common.{◌≡◌}
use Rattle.arraystring_core.specs.Taken.{joined_pieces}
use Rattle.arraystring_core.proofs.array_string.ArrayString.from_iterator_unchecked.Given as goal

abbrev pub invariant-loop-piece : goal.invariant-loop-piece
invariant-loop-piece g l = record {
  can : (goal.iterator-loop-piece g).can_next l.piece-iterator;
  ends : (goal.iterator-loop-piece g).is_finite l.piece-iterator;
  text : l.made.text ≡ joined_pieces l.yielded;
}
