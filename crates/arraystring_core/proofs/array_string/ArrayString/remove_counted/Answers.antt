use Rattle.std.proofs.Common.{◌≡◌, ◌+◌, ◌++◌, sym, arith, ◌∙◌, ap, rules}
use Rattle.arraystring_base.specs.Text.{width, back, front}
use Rattle.arraystring_base.proofs.TextLaws.{width-bounds}
use Rattle.arraystring_core.specs.Edits.{removal}
use Rattle.arraystring_core.proofs.CauseLemmas.{begins, no_cause}
use Rattle.arraystring_core.proofs.EditLaws.{makes}
use Rattle.arraystring_core.proofs.array_string.ArrayString.remove_counted.Goals as goal

pub char_and_width_at-ch-requires : goal.char_and_width_at-ch-requires
char_and_width_at-ch-requires g c =
    let is = begins _ _ c.in_ok-check_removal.ensures in
    (search rules, (is.1, is.0))

pub overflow_add-start : goal.overflow_add-start
overflow_add-start g c = omega (arith, width-bounds c.char_and_width_at-ch.result.0)

pub remove_range-requires : goal.remove_range-requires
remove_range-requires g c =
    let at = (begins _ _ c.in_ok-check_removal.ensures).1 in
    let wide : width c.char_and_width_at-ch.result.0 ≡ c.char_and_width_at-ch.result.1 = sym c.char_and_width_at-ch.ensures.width in
    let next = rw wide at c.char_and_width_at-ch.ensures.next in
    (search rules, (omega arith, (at, (next, c.requires.moves))))

pub returns-clause-edit : goal.returns-clause-edit
returns-clause-edit g c =
    let t = c.args.self.now.text in
    let rest = ap (λ w. back t (c.args.index + w)) c.char_and_width_at-ch.ensures.width ∙ c.char_and_width_at-ch.ensures.rest in
    let row = removal t c.args.index in
    makes row _ _ _ (no_cause row.tests c.in_ok-check_removal.ensures) c.char_and_width_at-ch.ensures.first
    (c.remove_range.ensures.text ∙ ap (λ l. front t c.args.index ++ l) rest)

pub returns-clause-tail_alone : goal.returns-clause-tail_alone
returns-clause-tail_alone g c = rw (← c.char_and_width_at-ch.ensures.width) c.remove_range.ensures.tail_alone

pub returns-clause-least : goal.returns-clause-least
returns-clause-least g c =
    rw (← c.char_and_width_at-ch.ensures.width) (c.remove_range.ensures.least (λ e. omega (arith, width-bounds c.char_and_width_at-ch.result.0)))
