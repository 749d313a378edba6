use Rattle.std.proofs.Common.{◌+◌, ◌≤◌, ◌++◌, chars, length, arith, rules}
use Rattle.arraystring_base.specs.Text.{cap}
use Rattle.arraystring_base.proofs.TextLaws.{size-borrowed}
use Rattle.arraystring_core.proofs.StoredLaws.{opened-size}
use Rattle.arraystring_core.proofs.SpanLemmas.{StoredAt, appended_at_front}
use Rattle.arraystring_core.proofs.array_string.ArrayString.compact_and_push_str.Given as given
use Rattle.arraystring_core.proofs.array_string.ArrayString.compact_and_push_str.Goals as goal

pub overflow_cast-self : goal.overflow_cast-self
overflow_cast-self g c = omega (arith, c.requires, size-borrowed c.utf8.string)

pub overflow_add-self : goal.overflow_add-self
overflow_add-self g c = omega (arith, c.requires, opened-size c.self.invariant c.self.view_is, size-borrowed c.utf8.string)

pub write_by_call-requires : goal.write_by_call-requires
write_by_call-requires g c =
    let at_end = opened-size c.self.invariant c.self.view_is in
    (search rules, omega (arith, c.requires, at_end, size-borrowed c.utf8.string))

-- what is then in the array
written : (g : given.Over) (c : goal.After-write_by_call g)
    → StoredAt g.row.N c.write_by_call.new.array 0 (c.self.inside.size + length c.args.string.now) (c.args.self.now.text ++ chars c.args.string.now)
written g c =
    let room : c.self.inside.size + length c.args.string.now ≤ cap g.row.N =
    omega (arith, c.requires, opened-size c.self.invariant c.self.view_is, size-borrowed c.utf8.string) in
    appended_at_front c.self.invariant c.self.view_is c.utf8.string room c.shift_on_cold_path.ensures.bytes
    (rw c.as_bytes.ensures.value at c.write_by_call.ensures)

pub invariant_of-self : goal.invariant_of-self
invariant_of-self g c = (written g c).in_array

pub returns : goal.returns
returns g c = (written g c).shown
