use Rattle.std.proofs.Common.{refl, ap, ◌∙◌, arith, subst, chars}
use Rattle.arraystring_base.specs.Text.{IsText}
use Rattle.arraystring_base.proofs.BoundaryLaws.{back-text}
use Rattle.arraystring_core.proofs.StoredLaws.{opened-text, text_spelled}
use Rattle.arraystring_core.proofs.DrainLemmas.{given-within, borrowed-utf8, borrowed-bytes, left-fits}
use Rattle.arraystring_core.proofs.drain.Drain.as_str.Goals as goal

pub overflow_sub-len : goal.overflow_sub-len
overflow_sub-len g c = given-within c.self.invariant

pub part_of_length-requires : goal.part_of_length-requires
part_of_length-requires g c = omega (arith, given-within c.self.invariant)

pub from_utf8_unchecked-requires : goal.from_utf8_unchecked-requires
from_utf8_unchecked-requires g c = rw c.part_of_length.ensures (borrowed-utf8 c.self.invariant)

pub returns-clause-bytes : goal.returns-clause-bytes
returns-clause-bytes g c =
    c.from_utf8_unchecked.ensures ∙ c.part_of_length.ensures ∙ borrowed-bytes c.self.invariant c.self.view_is

pub returns-clause-chars : goal.returns-clause-chars
returns-clause-chars g c =
    let removed = opened-text c.self.invariant.in_array refl in
    let text = subst (λ d. IsText d.left) c.self.view_is (back-text _ c.self.inside.front removed) in
    let all = c.from_utf8_unchecked.ensures ∙ c.part_of_length.ensures ∙ borrowed-bytes c.self.invariant c.self.view_is in
    ap chars all ∙ text_spelled _ text

pub returns-clause-text : goal.returns-clause-text
returns-clause-text g c =
    let removed = opened-text c.self.invariant.in_array refl in
    subst (λ d. IsText d.left) c.self.view_is (back-text _ c.self.inside.front removed)

pub returns-clause-fits : goal.returns-clause-fits
returns-clause-fits g c = left-fits c.self.invariant c.self.view_is
