use Rattle.std.proofs.Common.{◌+◌, ◌≤◌, ◌++◌, chars, length, ap, ◌∙◌, arith, rules}
use Rattle.arraystring_base.specs.Text.{cap}
use Rattle.arraystring_base.proofs.TextLaws.{size-borrowed}
use Rattle.arraystring_core.proofs.StoredLaws.{opened-end, opened-size}
use Rattle.arraystring_core.proofs.SpanLemmas.{StoredAt, appended}
use Rattle.arraystring_core.proofs.array_string.ArrayString.push_str_unchecked.Given as given
use Rattle.arraystring_core.proofs.array_string.ArrayString.push_str_unchecked.Goals as goal
use Rattle.arraystring_core.proofs.array_string.ArrayString.push_str_unchecked.Goals.{After-as_bytes, else-self-gt0-via-then-self-gt0+else-end-string, else-self-gt0-via-else-self-gt0}

pub overflow_cast-self : goal.overflow_cast-self
overflow_cast-self g c = omega (arith, c.requires, size-borrowed c.utf8.string)

pub overflow_add-self : goal.overflow_add-self
overflow_add-self g c = omega (arith, c.requires, opened-size c.self.invariant c.self.view_is, size-borrowed c.utf8.string)

-- there is room behind the text
room : (g : given.Over) (c : After-as_bytes g) → c.self.inside.start + c.self.inside.size + length c.args.string.now ≤ cap g.row.N
room g c =
    let ended = c.end-end.ensures.value ∙ opened-end c.self.invariant c.self.view_is in
    let at_end = opened-size c.self.invariant c.self.view_is in
    elim c.else-self-gt0.branch [
      | else-self-gt0-via-then-self-gt0+else-end-string w ↦ omega (arith, ended)
      | else-self-gt0-via-else-self-gt0 w ↦ omega (arith, c.requires, at_end, size-borrowed c.utf8.string)
    ]

pub write_over-requires : goal.write_over-requires
write_over-requires g c =
    let ended = c.end-end.ensures.value ∙ opened-end c.self.invariant c.self.view_is in
    (search rules, omega (arith, room g c, ended, ap length c.as_bytes.ensures.value))

-- what is then in the array
written : (g : given.Over) (c : goal.After-write_over g) → c.self.inside.start + c.self.inside.size + length c.args.string.now ≤ cap g.row.N
    → StoredAt g.row.N c.write_over.new.array c.self.inside.start (c.self.inside.size + length c.args.string.now) (c.args.self.now.text ++ chars c.args.string.now)
written g c fits =
    let ended = c.end-end.ensures.value ∙ opened-end c.self.invariant c.self.view_is in
    appended c.self.invariant c.self.view_is c.utf8.string fits (rw (ended, c.as_bytes.ensures.value) at c.write_over.ensures)

pub invariant_of-self : goal.invariant_of-self
invariant_of-self g c = (written g c (room g (goal.at.invariant_of-self g c).After-as_bytes)).in_array

pub returns : goal.returns
returns g c = (written g c (room g (goal.at.returns g c).After-as_bytes)).shown
