use Rattle.std.proofs.Common.{◌≡◌, ℕ, Bool}
use Rattle.arraystring_base.specs.Text.{size}
use Rattle.arraystring_core.specs.Retain.{ReturnsAs}
use Rattle.arraystring_core.specs.Edits.{without_leading}
use Rattle.arraystring_core.proofs.array_string.ArrayString.trim_start_matches.Given as goal

abbrev pub invariant-loop-ch : goal.invariant-loop-ch
invariant-loop-ch g l = (passes : ℕ → Bool) → ReturnsAs (goal.F-post g) l.fn.drops passes
    → without_leading passes l.self.text ≡ without_leading passes l.initial.self.text

abbrev pub decreases-loop-ch : goal.decreases-loop-ch
decreases-loop-ch g l = size l.self.text
