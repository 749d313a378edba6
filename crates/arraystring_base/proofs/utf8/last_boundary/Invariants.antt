use Rattle.std.proofs.Common.{◌≡◌, ℕ, ◌+◌, ◌<◌, ◌≤◌, IsCharBoundary}
use Rattle.arraystring_base.proofs.utf8.last_boundary.Given as goal

abbrev pub invariant-loop-all : goal.invariant-loop-all
invariant-loop-all l = record {
  at_most : l.end ≤ l.limit;
  near : l.limit < l.end + 4;
  nearest : (i : ℕ) → l.end < i → i ≤ l.limit → IsCharBoundary l.text i → ⊥;
  looks : l.steps.looked + l.end ≡ l.initial.steps.looked + l.limit;
  moves : l.steps.moved ≡ l.initial.steps.moved;
}

abbrev pub decreases-loop-all : goal.decreases-loop-all
decreases-loop-all l = l.end
