use Rattle.std.proofs.Common.{◌+◌, ◌-◌, ◌++◌, chars, length, refl, ap, take, ◌∙◌, arith, rules}
use Rattle.arraystring_base.specs.Text.{front, back}
use Rattle.arraystring_base.proofs.TextLaws.{size-borrowed}
use Rattle.arraystring_core.proofs.GapLemmas.{shifted}
use Rattle.arraystring_core.proofs.StoredLaws.{opened-size, opened-within}
use Rattle.arraystring_core.proofs.SpanLemmas.{StoredAt, spliced, moved_to_start}
use Rattle.arraystring_core.proofs.array_string.ArrayString.compact_and_splice.Given as given
use Rattle.arraystring_core.proofs.array_string.ArrayString.compact_and_splice.Goals as goal

pub overflow_sub-tail : goal.overflow_sub-tail
overflow_sub-tail g c = opened-within c.self.invariant c.self.view_is _ c.requires.end

pub overflow_add-self-2 : goal.overflow_add-self-2
overflow_add-self-2 g c = omega (arith, spliced c.self.invariant c.self.view_is c.requires.end c.utf8.given)

pub overflow_cast-self : goal.overflow_cast-self
overflow_cast-self g c = omega (arith, spliced c.self.invariant c.self.view_is c.requires.end c.utf8.given)

pub shift-requires : goal.shift-requires
shift-requires g c =
    let sizes = spliced c.self.invariant c.self.view_is c.requires.end c.utf8.given in
    (search rules, (omega arith, (omega arith, omega arith)))

pub overflow_add-offset : goal.overflow_add-offset
overflow_add-offset g c = omega (arith, spliced c.self.invariant c.self.view_is c.requires.end c.utf8.given)

pub shift-requires-2 : goal.shift-requires-2
shift-requires-2 g c =
    let sizes = spliced c.self.invariant c.self.view_is c.requires.end c.utf8.given in
    (search rules, (omega arith, (omega arith, grind arith)))

pub write_over-requires : goal.write_over-requires
write_over-requires g c =
    rw c.as_bytes.ensures.value (search rules, omega (arith, spliced c.self.invariant c.self.view_is c.requires.end c.utf8.given))

-- what is then in the array
written : (g : given.Over) (c : goal.After-write_over g)
    → StoredAt g.row.N c.write_over.new.array 0 (c.args.start + (length c.args.given.now + (c.self.inside.size - c.args.end)))
    (front c.args.self.now.text c.args.start ++ (chars c.args.given.now ++ back c.args.self.now.text c.args.end))
written g c =
    let offset = c.self.inside.start in
    let tail = c.self.inside.size - c.args.end in
    let sizes = spliced c.self.invariant c.self.view_is c.requires.end c.utf8.given in
    let first = shifted c.self.inside.array c.shift.new.array offset 0 c.args.start (omega arith) (omega arith) c.shift.ensures.bytes in
    let second = shifted c.shift.new.array c.shift-2.new.array (offset + c.args.end) (c.args.start + length c.args.given.now) tail
    (omega arith) (omega arith) c.shift-2.ensures.bytes in
    moved_to_start c.self.invariant c.self.view_is c.requires.order c.requires.start c.requires.end c.requires.room c.utf8.given refl refl refl
    c.shift-2.new.array (second.long ∙ first.long ∙ c.self.invariant.length) (second.before 0 c.args.start (omega arith) ∙ first.here)
    (second.here ∙ ap (take tail) (first.behind (offset + c.args.end) (omega arith))) (rw c.as_bytes.ensures.value at c.write_over.ensures)

pub invariant_of-self : goal.invariant_of-self
invariant_of-self g c = (written g c).in_array

pub returns : goal.returns
returns g c = record {
  text = (written g c).shown;
  most = rw (opened-size c.self.invariant c.self.view_is) (search rules);
  least = rw (opened-size c.self.invariant c.self.view_is, size-borrowed c.utf8.given) (search rules);
  counted = omega arith;
  looked = cc;
}
