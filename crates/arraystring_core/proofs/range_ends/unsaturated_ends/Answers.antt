use Rattle.std.proofs.Common.{rules, ◌≡◌, ℕ}
use Rattle.std.specs.Bound.{bound_map}
use Rattle.std.specs.Borrow.{Bor}
use Rattle.std.specs.Range.Bound.{start_index, end_index}
use Rattle.arraystring_core.proofs.range_ends.unsaturated_ends.Goals.{in-Included, in-Excluded, in-Unbounded, in-Included-end_bound, in-Excluded-end_bound, in-Unbounded-end_bound}
use Rattle.arraystring_core.proofs.range_ends.unsaturated_ends.Goals as goal

-- the bounds that the two calls returned
pub returns : goal.returns
returns g c =
    let s = bound_map {A = Bor ℕ} {B = ℕ} (λ x. x.now) c.start_bound.result in
    let e = bound_map {A = Bor ℕ} {B = ℕ} (λ x. x.now) c.end_bound.result in
    let start : c.match-start_bound.start ≡ start_index s =
    elim c.match-start_bound.branch [
      | in-Included w ↦ search rules
      | in-Excluded w ↦ search rules
      | in-Unbounded w ↦ search rules
    ] in
    let end : c.match-end_bound.end ≡ end_index e c.args.len =
    elim c.match-end_bound.branch [
      | in-Included-end_bound w ↦ search rules
      | in-Excluded-end_bound w ↦ search rules
      | in-Unbounded-end_bound w ↦ search rules
    ] in
    record { start = s; end = e; returned = λ h. (c.start_bound.ensures h, c.end_bound.ensures h); holds = (start, end) }
