use Rattle.std.proofs.Common.{◌+◌, ◌-◌, ◌≤◌, ◌∙◌, ◌++◌, chars, length, refl, arith, rules}
use Rattle.arraystring_base.specs.Text.{cap, front, back}
use Rattle.arraystring_base.proofs.TextLaws.{size-borrowed}
use Rattle.arraystring_core.proofs.GapLemmas.{shifted}
use Rattle.arraystring_core.proofs.StoredLaws.{opened-size, opened-within}
use Rattle.arraystring_core.proofs.SpanLemmas.{StoredAt, spliced, filled}
use Rattle.arraystring_core.proofs.array_string.ArrayString.splice.Given as given
use Rattle.arraystring_core.proofs.array_string.ArrayString.splice.Goals as goal
use Rattle.arraystring_core.proofs.array_string.ArrayString.splice.Goals.{else-offset-start-via-then-offset-start+else-len-end, else-offset-start-via-else-offset-start}

pub overflow_sub-tail : goal.overflow_sub-tail
overflow_sub-tail g c = opened-within c.self.invariant c.self.view_is _ c.requires.end

pub overflow_add-start : goal.overflow_add-start
overflow_add-start g c = omega (arith, spliced c.self.invariant c.self.view_is c.requires.end c.utf8.given)

pub overflow_add-offset : goal.overflow_add-offset
overflow_add-offset g c = omega (arith, spliced c.self.invariant c.self.view_is c.requires.end c.utf8.given)

pub returns-then-len-end-clause-tail_alone : goal.returns-then-len-end-clause-tail_alone
returns-then-len-end-clause-tail_alone g c small = omega (arith, size-borrowed c.utf8.given)

pub overflow_cast-self : goal.overflow_cast-self
overflow_cast-self g c = omega (arith, spliced c.self.invariant c.self.view_is c.requires.end c.utf8.given)

pub overflow_add-offset-2 : goal.overflow_add-offset-2
overflow_add-offset-2 g c = omega (arith, spliced c.self.invariant c.self.view_is c.requires.end c.utf8.given)

pub overflow_add-offset-3 : goal.overflow_add-offset-3
overflow_add-offset-3 g c = omega (arith, spliced c.self.invariant c.self.view_is c.requires.end c.utf8.given)

pub shift-requires : goal.shift-requires
shift-requires g c =
    let sizes = spliced c.self.invariant c.self.view_is c.requires.end c.utf8.given in (
      search rules,
      (
        omega arith,
        (
          elim c.else-offset-start.branch [
            | else-offset-start-via-then-offset-start+else-len-end w ↦ omega (arith, sizes, w.if-len-end.false)
            | else-offset-start-via-else-offset-start w ↦ omega (arith, sizes, w.if-offset-start.false)
          ],
          omega arith,
        ),
      ),
    )

pub overflow_add-offset-4 : goal.overflow_add-offset-4
overflow_add-offset-4 g c = omega (arith, spliced c.self.invariant c.self.view_is c.requires.end c.utf8.given)

pub write_over-requires : goal.write_over-requires
write_over-requires g c =
    let sizes = spliced c.self.invariant c.self.view_is c.requires.end c.utf8.given in
    rw c.as_bytes.ensures.value (
      search rules,
      elim c.else-offset-start.branch [
        | else-offset-start-via-then-offset-start+else-len-end w ↦ omega (arith, sizes, w.if-len-end.false)
        | else-offset-start-via-else-offset-start w ↦ omega (arith, sizes, w.if-offset-start.false)
      ],
    )

-- what is then in the array
written : (g : given.Over) (c : goal.After-write_over g)
    → StoredAt g.row.N c.write_over.new.array c.self.inside.start (c.args.start + (length c.args.given.now + (c.self.inside.size - c.args.end)))
    (front c.args.self.now.text c.args.start ++ (chars c.args.given.now ++ back c.args.self.now.text c.args.end))
written g c =
    let offset = c.self.inside.start in
    let size = c.self.inside.size in
    let sizes = spliced c.self.invariant c.self.view_is c.requires.end c.utf8.given in
    let fits : offset + (c.args.start + (length c.args.given.now + (size - c.args.end))) ≤ cap g.row.N = elim c.else-offset-start.branch [
      | else-offset-start-via-then-offset-start+else-len-end w ↦ omega (arith, sizes, w.if-len-end.false)
      | else-offset-start-via-else-offset-start w ↦ omega (arith, sizes, w.if-offset-start.false)
    ] in
    let gap = shifted c.self.inside.array c.shift.new.array (offset + c.args.end) (offset + (c.args.start + length c.args.given.now)) (size - c.args.end)
    (omega arith) (omega arith) c.shift.ensures.bytes in
    filled c.self.invariant c.self.view_is c.requires.order c.requires.start c.requires.end c.requires.room c.utf8.given refl refl refl
    c.shift.new.array (gap.long ∙ c.self.invariant.length) fits (gap.before offset c.args.start (omega arith)) gap.here
    (rw c.as_bytes.ensures.value at c.write_over.ensures)

pub invariant_of-self : goal.invariant_of-self
invariant_of-self g c = (written g c).in_array

pub returns-clause-replaced : goal.returns-clause-replaced
returns-clause-replaced g c = record {
  text = (written g c).shown;
  most = rw (opened-size c.self.invariant c.self.view_is) (search rules);
  least = rw (opened-size c.self.invariant c.self.view_is, size-borrowed c.utf8.given) (search rules);
  counted = omega arith;
  looked = cc;
}

pub returns-clause-tail_alone : goal.returns-clause-tail_alone
returns-clause-tail_alone g c = rw (opened-size c.self.invariant c.self.view_is) (search rules)
