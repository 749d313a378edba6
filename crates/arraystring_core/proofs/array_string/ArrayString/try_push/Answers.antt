use Rattle.std.proofs.Common.{◌≡◌, ◌+◌, ◌<◌, ◌≤◌, ◌++◌, ◌∷◌, [], refl, sym, ap, length, ◌∙◌, arith, rules}
use Rattle.std.proofs.lemmas.Bool.{ltb-true}
use Rattle.arraystring_base.specs.Text.{cap, width}
use Rattle.arraystring_base.proofs.TextLaws.{utf8-one, length-utf8, width-bounds}
use Rattle.arraystring_core.proofs.StoredLaws.{opened-end, opened-size}
use Rattle.arraystring_core.proofs.SpanLemmas.{StoredAt}
use Rattle.arraystring_core.proofs.AppendLemmas.{char-appended}
use Rattle.arraystring_core.proofs.CauseLemmas.{makes-addition, refuses-addition}
use Rattle.arraystring_core.proofs.array_string.ArrayString.try_push.Given as given
use Rattle.arraystring_core.proofs.array_string.ArrayString.try_push.Goals as goal

pub overflow_add-self : goal.overflow_add-self
overflow_add-self g c =
    let ended = c.end-end.ensures.value ∙ opened-end c.self.invariant c.self.view_is in
    omega (arith, ended, c.if-has_room_for_char.ensures.0 refl, width-bounds c.args.ch)

-- what is then in the array
written : (g : given.Over) (c : goal.After-encode g)
    → StoredAt g.row.N c.encode.new.array c.self.inside.start (c.self.inside.size + 1) (c.args.self.now.text ++ c.args.ch ∷ [])
written g c =
    let ended : c.end-end.result ≡ c.self.inside.start + c.self.inside.size = c.end-end.ensures.value ∙ opened-end c.self.invariant c.self.view_is in
    let room : c.self.inside.start + c.self.inside.size + width c.args.ch ≤ cap g.row.N = omega (arith, ended, c.if-has_room_for_char.ensures.0 refl) in
    let narrow : 1 ≡ width c.args.ch = sym (ap length (utf8-one c.args.ch (ltb-true _ _ (sym c.is_ascii.ensures ∙ c.if-is_ascii.true)))) ∙ length-utf8 c.args.ch in
    char-appended c.self.invariant c.self.view_is c.args.ch (search rules) narrow room (rw ended at c.encode.ensures.bytes)

pub invariant_of-self : goal.invariant_of-self
invariant_of-self g c = (written g c).in_array

pub returns-then-is_ascii : goal.returns-then-is_ascii
returns-then-is_ascii g c =
    let ended : c.end-end.result ≡ c.self.inside.start + c.self.inside.size = c.end-end.ensures.value ∙ opened-end c.self.invariant c.self.view_is in
    makes-addition _ (omega (arith, ended, c.if-has_room_for_char.ensures.0 refl, opened-size c.self.invariant c.self.view_is)) (written g c).shown

pub overflow_add-self-else-is_ascii : goal.overflow_add-self-else-is_ascii
overflow_add-self-else-is_ascii g c =
    let ended = c.end-end.ensures.value ∙ opened-end c.self.invariant c.self.view_is in
    omega (arith, ended, c.if-has_room_for_char.ensures.0 refl, c.encode-else-is_ascii.ensures.width)

written-wide : (g : given.Over) (c : goal.After-self-else-is_ascii-1 g)
    → StoredAt g.row.N c.encode-else-is_ascii.new.array c.self.inside.start (c.self.inside.size + c.encode-else-is_ascii.result)
    (c.args.self.now.text ++ c.args.ch ∷ [])
written-wide g c =
    let ended : c.end-end.result ≡ c.self.inside.start + c.self.inside.size = c.end-end.ensures.value ∙ opened-end c.self.invariant c.self.view_is in
    let room : c.self.inside.start + c.self.inside.size + width c.args.ch ≤ cap g.row.N = omega (arith, ended, c.if-has_room_for_char.ensures.0 refl) in
    char-appended c.self.invariant c.self.view_is c.args.ch (search rules) c.encode-else-is_ascii.ensures.width room
    (rw ended at c.encode-else-is_ascii.ensures.bytes)

pub invariant_of-self-else-is_ascii : goal.invariant_of-self-else-is_ascii
invariant_of-self-else-is_ascii g c = (written-wide g c).in_array

pub returns-else-is_ascii : goal.returns-else-is_ascii
returns-else-is_ascii g c =
    let ended : c.end-end.result ≡ c.self.inside.start + c.self.inside.size = c.end-end.ensures.value ∙ opened-end c.self.invariant c.self.view_is in
    makes-addition _ (omega (arith, ended, c.if-has_room_for_char.ensures.0 refl, opened-size c.self.invariant c.self.view_is)) (written-wide g c).shown

pub returns-then-not-has_room_for_char : goal.returns-then-not-has_room_for_char
returns-then-not-has_room_for_char g c =
    let over : cap g.row.N < c.self.inside.size + width c.args.ch = search rules in
    refuses-addition _ (omega (arith, over, opened-size c.self.invariant c.self.view_is))

pub compact_and_push_char-size-requires : goal.compact_and_push_char-size-requires
compact_and_push_char-size-requires g c = (search rules, (c.self.invariant, omega (arith, c.if-not-has_room_for_char.ensures.0 refl)))

pub overflow_cast-self-2 : goal.overflow_cast-self-2
overflow_cast-self-2 g c = omega (arith, c.compact_and_push_char-size.ensures.in_array.within)

pub invariant_of-self-2 : goal.invariant_of-self-2
invariant_of-self-2 g c = c.compact_and_push_char-size.ensures.in_array

pub returns : goal.returns
returns g c =
    let text = c.compact_and_push_char-size.ensures.text ∙ ap (λ s. s.text ++ c.args.ch ∷ []) c.self.view_is in
    makes-addition _ (omega (arith, c.if-not-has_room_for_char.ensures.0 refl, opened-size c.self.invariant c.self.view_is)) text
