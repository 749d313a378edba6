use Rattle.std.proofs.Common.{◌+◌, ◌≤◌, ◌++◌, ◌∷◌, [], refl, ◌∙◌, arith, rules}
use Rattle.arraystring_base.specs.Text.{cap, width}
use Rattle.arraystring_core.proofs.StoredLaws.{opened-end, opened-size}
use Rattle.arraystring_core.proofs.SpanLemmas.{StoredAt}
use Rattle.arraystring_core.proofs.AppendLemmas.{char-appended}
use Rattle.arraystring_core.proofs.array_string.ArrayString.push_unchecked.Given as given
use Rattle.arraystring_core.proofs.array_string.ArrayString.push_unchecked.Goals as goal
use Rattle.arraystring_core.proofs.array_string.ArrayString.push_unchecked.Goals.{else-self-gt0-via-then-self-gt0+else-not-has_room_for_char, else-self-gt0-via-else-self-gt0}

pub compact_and_push_char-size-requires : goal.compact_and_push_char-size-requires
compact_and_push_char-size-requires g c =
    (search rules, (c.self.invariant, omega (arith, c.requires, opened-size c.self.invariant c.self.view_is)))

pub overflow_add-self : goal.overflow_add-self
overflow_add-self g c = omega (arith, c.requires, opened-size c.self.invariant c.self.view_is, c.encode.ensures.width)

-- what is then in the array
written : (g : given.Over) (c : goal.After-self-2-1 g)
    → StoredAt g.row.N c.encode.new.array c.self.inside.start (c.self.inside.size + c.encode.result) (c.args.self.now.text ++ c.args.ch ∷ [])
written g c =
    let ended = c.end-end.ensures.value ∙ opened-end c.self.invariant c.self.view_is in
    let at_end = opened-size c.self.invariant c.self.view_is in
    let room : c.self.inside.start + c.self.inside.size + width c.args.ch ≤ cap g.row.N = elim c.else-self-gt0.branch [
      | else-self-gt0-via-then-self-gt0+else-not-has_room_for_char w ↦ omega (arith, ended, w.if-not-has_room_for_char.ensures.0 refl)
      | else-self-gt0-via-else-self-gt0 w ↦ omega (arith, c.requires, at_end)
    ] in
    char-appended c.self.invariant c.self.view_is c.args.ch (search rules) c.encode.ensures.width room (rw ended at c.encode.ensures.bytes)

pub invariant_of-self-2 : goal.invariant_of-self-2
invariant_of-self-2 g c = (written g c).in_array

pub returns : goal.returns
returns g c = (written g c).shown
