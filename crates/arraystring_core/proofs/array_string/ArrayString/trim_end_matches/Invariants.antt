use Rattle.std.proofs.Common.{◌≡◌, ℕ, ◌+◌, ◌*◌, ◌≤◌, Bool, length}
use Rattle.arraystring_base.specs.Text.{size}
use Rattle.arraystring_core.specs.Retain.{ReturnsAs}
use Rattle.arraystring_core.specs.Edits.{without_trailing}
use Rattle.arraystring_core.proofs.array_string.ArrayString.trim_end_matches.Given as goal

abbrev pub invariant-loop-start : goal.invariant-loop-start
invariant-loop-start g l = record {
  same : (passes : ℕ → Bool) → ReturnsAs (goal.F-post g) l.fn.drops passes
      → without_trailing passes l.self.text ≡ without_trailing passes l.initial.self.text;
  looked : l.steps.looked + 4 * size l.self.text ≤ l.initial.steps.looked + 4 * size l.initial.self.text;
  few : l.steps.looked + 4 * length l.self.text ≤ l.initial.steps.looked + 4 * length l.initial.self.text;
  fits : size l.initial.self.text ≤ 255;
  least : l.initial.steps.looked + length l.initial.self.text ≤ l.steps.looked + length l.self.text;
  counted : l.initial.steps.looked ≤ l.steps.looked;
  moved : l.steps.moved ≡ l.initial.steps.moved;
}

abbrev pub decreases-loop-start : goal.decreases-loop-start
decreases-loop-start g l = size l.self.text
