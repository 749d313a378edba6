use Rattle.std.proofs.Common.{length, drop, length-drop, sym, arith, ◌∙◌, ap, rules}
use Rattle.arraystring_base.proofs.TextLaws.{size-is, size-borrowed, chars-bytes}
use Rattle.arraystring_base.proofs.BoundaryLaws.{boundary-to_bytes, bytes-back}
use Rattle.arraystring_core.specs.Edits.{split}
use Rattle.arraystring_core.proofs.CauseLemmas.{divides, no_cause}
use Rattle.arraystring_core.proofs.EditLaws.{makes}
use Rattle.arraystring_core.proofs.array_string.ArrayString.split_off.Goals as goal

pub text_from_boundary-requires : goal.text_from_boundary-requires
text_from_boundary-requires g c =
    boundary-to_bytes c.args.self.now.text c.as_str.result.now c.args.at c.as_str.utf8 (sym c.as_str.ensures.bytes) (divides _ _ c.in_ok-check_bounds_and_boundary.ensures).1

pub from_str_unchecked-rest-requires : goal.from_str_unchecked-rest-requires
from_str_unchecked-rest-requires g c =
    (search rules, omega (arith, size-borrowed c.text_from_boundary.utf8, ap length c.text_from_boundary.ensures, length-drop c.args.at c.as_str.result.now, ap length c.as_str.ensures.bytes, size-is c.args.self.now.text))

pub set_len-requires : goal.set_len-requires
set_len-requires g c = (search rules, (divides _ _ c.in_ok-check_bounds_and_boundary.ensures).1)

pub returns : goal.returns
returns g c =
    let t = c.args.self.now.text in
    let at = (divides _ _ c.in_ok-check_bounds_and_boundary.ensures).1 in
    let spelled = c.text_from_boundary.ensures ∙ ap (drop c.args.at) c.as_str.ensures.bytes ∙ bytes-back t c.args.at at in
    let rest = chars-bytes c.text_from_boundary.utf8 spelled in
    let row = split t c.args.at in
    makes row _ _ _ (no_cause row.tests c.in_ok-check_bounds_and_boundary.ensures) (c.from_str_unchecked-rest.ensures ∙ rest) c.set_len.ensures
