use Rattle.std.proofs.Common.{◌+◌, ◌-◌, ◌≤◌, ◌++◌, ◌∷◌, chars, sym, ap, refl, ◌∙◌, arith, rules}
use Rattle.arraystring_base.specs.Text.{size, cap, front, back}
use Rattle.arraystring_base.proofs.TextLaws.{width-is, width-bounds}
use Rattle.arraystring_core.proofs.GapLemmas.{shifted}
use Rattle.arraystring_core.proofs.StoredLaws.{opened-within}
use Rattle.arraystring_core.proofs.SpanLemmas.{StoredAt}
use Rattle.arraystring_core.proofs.AppendLemmas.{char-utf8, char-in_front, char-spelled, char-inserted}
use Rattle.arraystring_core.proofs.array_string.ArrayString.insert_char_at_boundary.Given as given
use Rattle.arraystring_core.proofs.array_string.ArrayString.insert_char_at_boundary.Goals as goal

pub overflow_sub-tail : goal.overflow_sub-tail
overflow_sub-tail g c = opened-within c.self.invariant c.self.view_is _ c.requires.boundary

pub encode-requires : goal.encode-requires
encode-requires g c = (search rules, omega (arith, width-bounds c.args.ch))

pub from_utf8_unchecked-given-requires : goal.from_utf8_unchecked-given-requires
from_utf8_unchecked-given-requires g c =
    let wide = c.len_utf8-len.ensures.value ∙ sym (width-is c.args.ch) in
    rw (c.part_of_length.ensures, char-in_front c.args.ch (search rules) _ wide c.encode.ensures.bytes) (char-utf8 c.args.ch (search rules))

pub compact_and_splice-requires : goal.compact_and_splice-requires
compact_and_splice-requires g c =
    let t = c.args.self.now.text in
    let given = c.from_utf8_unchecked-given in
    let wide = c.len_utf8-len.ensures.value ∙ sym (width-is c.args.ch) in
    let spelled = char-spelled c.args.ch (search rules) _ wide c.encode.ensures.bytes (given.ensures ∙ c.part_of_length.ensures) in
    let fits : size t - (c.args.at - c.args.at) + size (chars given.result.now) ≤ cap g.row.N = omega (arith, ap size spelled) in
    (search rules, (omega arith, (c.requires.boundary, (c.requires.boundary, (fits, omega arith)))))

pub returns-then-offset-size : goal.returns-then-offset-size
returns-then-offset-size g c =
    let t = c.args.self.now.text in
    let wide = c.len_utf8-len.ensures.value ∙ sym (width-is c.args.ch) in
    let spelled = char-spelled c.args.ch (search rules) _ wide c.encode.ensures.bytes (c.from_utf8_unchecked-given.ensures ∙ c.part_of_length.ensures) in
    c.compact_and_splice.ensures.text ∙ ap (λ l. front t c.args.at ++ (l ++ back t c.args.at)) spelled

pub overflow_add-self-2 : goal.overflow_add-self-2
overflow_add-self-2 g c = omega (arith, opened-within c.self.invariant c.self.view_is _ c.requires.boundary)

pub overflow_cast-self : goal.overflow_cast-self
overflow_cast-self g c = omega (arith, opened-within c.self.invariant c.self.view_is _ c.requires.boundary)

pub overflow_add-offset-3 : goal.overflow_add-offset-3
overflow_add-offset-3 g c = omega (arith, opened-within c.self.invariant c.self.view_is _ c.requires.boundary)

pub overflow_add-offset-4 : goal.overflow_add-offset-4
overflow_add-offset-4 g c = omega (arith, opened-within c.self.invariant c.self.view_is _ c.requires.boundary)

pub shift-requires : goal.shift-requires
shift-requires g c =
    let within = opened-within c.self.invariant c.self.view_is _ c.requires.boundary in
    (search rules, (omega arith, (omega arith, omega arith)))

pub overflow_add-offset-5 : goal.overflow_add-offset-5
overflow_add-offset-5 g c = omega (arith, opened-within c.self.invariant c.self.view_is _ c.requires.boundary)

pub encode-requires-2 : goal.encode-requires-2
encode-requires-2 g c =
    (search rules, omega (arith, opened-within c.self.invariant c.self.view_is _ c.requires.boundary, width-is c.args.ch))

-- what is then in the array
written : (g : given.Over) (c : goal.After-encode-2 g)
    → StoredAt g.row.N c.encode-2.new.array c.self.inside.start (c.args.at + (c.len_utf8-len.result + (c.self.inside.size - c.args.at)))
    (front c.args.self.now.text c.args.at ++ (c.args.ch ∷ back c.args.self.now.text c.args.at))
written g c =
    let offset = c.self.inside.start in
    let len = c.len_utf8-len.result in
    let within = opened-within c.self.invariant c.self.view_is _ c.requires.boundary in
    let gap = shifted c.self.inside.array c.shift.new.array (offset + c.args.at) (offset + (c.args.at + len)) (c.self.inside.size - c.args.at)
    (omega arith) (omega arith) c.shift.ensures.bytes in
    char-inserted c.self.invariant c.self.view_is c.args.ch (search rules) (c.len_utf8-len.ensures.value ∙ sym (width-is c.args.ch))
    _ c.requires.boundary c.requires.room refl refl c.shift.new.array (gap.long ∙ c.self.invariant.length) (omega arith)
    (gap.before offset c.args.at (omega arith)) gap.here c.encode-2.ensures.bytes

pub invariant_of-self : goal.invariant_of-self
invariant_of-self g c = (written g c).in_array

pub returns : goal.returns
returns g c = (written g c).shown
