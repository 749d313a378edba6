use Rattle.std.proofs.Common.{◌∙◌, ap, arith, rules}
use Rattle.arraystring_core.specs.RangeEnds.{saturated_end}
use Rattle.arraystring_core.proofs.PartLemmas.{takable}
use Rattle.arraystring_core.proofs.array_string.ArrayString.drain_counted.Goals as goal

pub overflow_add-self-inside : goal.overflow_add-self-inside
overflow_add-self-inside g c = omega (arith, takable c.self.invariant c.self.view_is _ _ c.in_ok-check_part.ensures)

pub new-removed-requires : goal.new-removed-requires
new-removed-requires g c =
    (search rules, (search rules, (takable c.self.invariant c.self.view_is _ _ c.in_ok-check_part.ensures).in_array))

pub remove_drained-requires : goal.remove_drained-requires
remove_drained-requires g c =
    let part = takable c.self.invariant c.self.view_is _ _ c.in_ok-check_part.ensures in
    (search rules, (part.order, (part.starts, (part.ends, c.requires.moves))))

pub returns-clause-edit : goal.returns-clause-edit
returns-clause-edit g c =
    let ends = c.saturating_ends-from.ensures in
    let part = takable c.self.invariant c.self.view_is _ _ c.in_ok-check_part.ensures in
    let made = part.made _ _ c.new-removed.ensures c.remove_drained.ensures.text in
    let high = ends.holds.1 ∙ ap (saturated_end ends.end) c.len.ensures.value in
    let moved = c.remove_drained.ensures in
    record {
      start = ends.start;
      end = ends.end;
      returned = ends.returned;
      holds = rw (← ends.holds.0, ← high) (made, λ first. omega (arith, moved.free first), omega arith, λ some. omega (arith, moved.least some));
    }
