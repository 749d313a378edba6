use Rattle.std.proofs.Common.{◌≡◌, ◌+◌, ◌≤◌, ◌++◌, chars, length, ◌∙◌, arith}
use Rattle.arraystring_base.specs.Text.{cap}
use Rattle.arraystring_base.proofs.TextLaws.{size-borrowed}
use Rattle.arraystring_core.proofs.StoredLaws.{opened-end, opened-size}
use Rattle.arraystring_core.proofs.SpanLemmas.{StoredAt, appended}
use Rattle.arraystring_core.proofs.CauseLemmas.{makes-addition, refuses-addition}
use Rattle.arraystring_core.proofs.array_string.ArrayString.try_push_str.Given as given
use Rattle.arraystring_core.proofs.array_string.ArrayString.try_push_str.Goals as goal

pub overflow_add-self : goal.overflow_add-self
overflow_add-self g c =
    omega (arith, c.end-end.ensures.value ∙ opened-end c.self.invariant c.self.view_is)

-- what is then in the array
written : (g : given.Over) (c : goal.After-write_over g)
    → StoredAt g.row.N c.write_over.new.array c.self.inside.start (c.self.inside.size + length c.args.string.now) (c.args.self.now.text ++ chars c.args.string.now)
written g c =
    let ended : c.end-end.result ≡ c.self.inside.start + c.self.inside.size = c.end-end.ensures.value ∙ opened-end c.self.invariant c.self.view_is in
    let room : c.self.inside.start + c.self.inside.size + length c.args.string.now ≤ cap g.row.N = omega (arith, ended) in
    appended c.self.invariant c.self.view_is c.utf8.string room (rw (ended, c.as_bytes.ensures.value) at c.write_over.ensures)

pub invariant_of-self : goal.invariant_of-self
invariant_of-self g c = (written g c).in_array

pub returns-then-end-string : goal.returns-then-end-string
returns-then-end-string g c =
    let ended = c.end-end.ensures.value ∙ opened-end c.self.invariant c.self.view_is in
    makes-addition _ (omega (arith, ended, size-borrowed c.utf8.string, opened-size c.self.invariant c.self.view_is)) (written g c).shown

pub returns-then-self-string : goal.returns-then-self-string
returns-then-self-string g c =
    refuses-addition _ (omega (arith, size-borrowed c.utf8.string, opened-size c.self.invariant c.self.view_is))

pub compact_and_push_str-requires : goal.compact_and_push_str-requires
compact_and_push_str-requires g c =
    let at_end = opened-size c.self.invariant c.self.view_is in
    omega (arith, size-borrowed c.utf8.string, at_end)

pub returns : goal.returns
returns g c =
    makes-addition _ (omega (arith, size-borrowed c.utf8.string, opened-size c.self.invariant c.self.view_is)) c.compact_and_push_str.ensures
