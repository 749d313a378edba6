use Rattle.std.proofs.Common.{◌≡◌, ap, sym, ◌∙◌, Some}
use Rattle.arraystring_base.specs.Text.{size}
use Rattle.arraystring_core.specs.Edits.{checked_part}
use Rattle.arraystring_core.proofs.PartLaws.{checked_part-some}
use Rattle.std.specs.Range.Bound.{end_index}
use Rattle.arraystring_core.proofs.array_string.ArrayString.get.Goals as goal

pub returns : goal.returns
returns g c =
    let t = c.args.self.now.text in
    let ends = c.unsaturated_ends-start in
    let at = sym c.is_boundary.ensures ∙ c.if-not-is_boundary.false in
    let to = sym c.is_boundary-else-not-is_boundary.ensures ∙ c.if-not-is_boundary-2.false in
    let borrowed = c.slice_unchecked.ensures.chars in
    let of = ends.ensures in
    let end_in = end_index of.end in
    let end : end_in (size t) ≡ ends.result.1 = ap end_in (sym c.len.ensures.value) ∙ sym {b = end_in c.len.result} of.holds.1 in
    let found = ap (λ i. checked_part t i (end_in (size t))) (sym of.holds.0) ∙ ap (checked_part t ends.result.0) end
    ∙ checked_part-some t ends.result.0 ends.result.1 c.if-start-end.false at to ∙ ap Some (sym borrowed) in
    record { start = of.start; end = of.end; returned = of.returned; holds = found }
