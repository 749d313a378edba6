use Rattle.std.proofs.Common.{◌≡◌, ℕ, List, ◌+◌, ◌-◌, ◌≤◌, ◌++◌, IsUtf8, chars, length, ◌∙◌, arith, rules, ap, refl}
use Rattle.arraystring_base.specs.Text.{size, cap, cut, bytes}
use Rattle.arraystring_base.proofs.TextLaws.{size-borrowed, chars-bytes}
use Rattle.arraystring_base.proofs.CutLaws.{cut-all, cut-fits}
use Rattle.arraystring_core.proofs.StoredLaws.{opened-end, opened-size}
use Rattle.arraystring_core.proofs.SpanLemmas.{StoredAt, appended}
use Rattle.arraystring_core.proofs.EditLaws.{makes}
use Rattle.arraystring_core.proofs.array_string.ArrayString.push_str.Given as given
use Rattle.arraystring_core.proofs.array_string.ArrayString.push_str.Goals as goal

-- a part that was cut is no larger than the room
fits : {part : List ℕ} (given : List ℕ) (room : ℕ) → IsUtf8 part → part ≡ bytes (cut (chars given) room) → length part ≤ room
fits given room u e = omega (arith, size-borrowed u, ap size (chars-bytes u e), cut-fits (chars given) room)

pub overflow_add-self : goal.overflow_add-self
overflow_add-self g c = omega (arith, opened-size c.self.invariant c.self.view_is)

pub write_over-requires : goal.write_over-requires
write_over-requires g c = (search rules, omega (arith, c.end-end.ensures.value ∙ opened-end c.self.invariant c.self.view_is, opened-size c.self.invariant c.self.view_is))

-- what is then in the array
whole : (g : given.Over) (c : goal.After-write_over g)
    → StoredAt g.row.N c.write_over.new.array c.self.inside.start (c.self.inside.size + length c.as_bytes-given.result.now) (c.args.self.now.text ++ chars c.args.string.now)
whole g c =
    let ended : c.end-end.result ≡ c.self.inside.start + c.self.inside.size = c.end-end.ensures.value ∙ opened-end c.self.invariant c.self.view_is in
    let room : c.self.inside.start + c.self.inside.size + length c.args.string.now ≤ cap g.row.N = omega (arith, opened-size c.self.invariant c.self.view_is) in
    rw c.as_bytes-given.ensures.value (appended c.self.invariant c.self.view_is c.utf8.string room (rw (ended, c.as_bytes-given.ensures.value) at c.write_over.ensures))

pub invariant_of-self : goal.invariant_of-self
invariant_of-self g c = (whole g c).in_array

pub returns-then-given-room : goal.returns-then-given-room
returns-then-given-room g c =
    let t = c.args.self.now.text in
    let all : cut (chars c.args.string.now) (cap g.row.N - size t) ≡ chars c.args.string.now = cut-all (omega (arith, size-borrowed c.utf8.string)) in
    makes _ t _ _ refl refl (rw all (whole g c).shown)

pub overflow_cast-self-2 : goal.overflow_cast-self-2
overflow_cast-self-2 g c = omega (arith, fits c.args.string.now (c.capacity.result - c.len.result) c.truncate_str-part.utf8 c.truncate_str-part.ensures)

pub overflow_add-self-2 : goal.overflow_add-self-2
overflow_add-self-2 g c = omega (arith, opened-size c.self.invariant c.self.view_is, fits c.args.string.now (c.capacity.result - c.len.result) c.truncate_str-part.utf8 c.truncate_str-part.ensures)

pub write_by_call-requires : goal.write_by_call-requires
write_by_call-requires g c = (search rules, omega (arith, fits c.args.string.now (c.capacity.result - c.len.result) c.truncate_str-part.utf8 c.truncate_str-part.ensures, c.end-end.ensures.value ∙ opened-end c.self.invariant c.self.view_is, opened-size c.self.invariant c.self.view_is))

begun : (g : given.Over) (c : goal.After-write_by_call g)
    → StoredAt g.row.N c.write_by_call.new.array c.self.inside.start (c.self.inside.size + length c.truncate_str-part.result.now) (c.args.self.now.text ++ chars c.truncate_str-part.result.now)
begun g c =
    let ended : c.end-end.result ≡ c.self.inside.start + c.self.inside.size = c.end-end.ensures.value ∙ opened-end c.self.invariant c.self.view_is in
    let room : c.self.inside.start + c.self.inside.size + length c.truncate_str-part.result.now ≤ cap g.row.N
    = omega (arith, opened-size c.self.invariant c.self.view_is, fits c.args.string.now (c.capacity.result - c.len.result) c.truncate_str-part.utf8 c.truncate_str-part.ensures) in
    appended c.self.invariant c.self.view_is c.truncate_str-part.utf8 room (rw (ended, c.as_bytes.ensures.value) at c.write_by_call.ensures)

pub invariant_of-self-2 : goal.invariant_of-self-2
invariant_of-self-2 g c = (begun g c).in_array

pub returns : goal.returns
returns g c =
    let t = c.args.self.now.text in
    let part = chars-bytes c.truncate_str-part.utf8 c.truncate_str-part.ensures in
    let left : c.capacity.result - c.len.result ≡ cap g.row.N - size t = omega arith in
    makes _ t _ _ refl refl ((begun g c).shown ∙ ap (λ l. t ++ l) (rw left at part))
