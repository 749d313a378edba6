use Rattle.std.proofs.Common.{◌≡◌, ◌+◌, ◌-◌, ◌≤◌, ◌++◌, true, arith, ◌∙◌, ap, chars, refl, rules}
use Rattle.arraystring_base.specs.Text.{cap, size, front, back, boundary}
use Rattle.arraystring_base.proofs.TextLaws.{chars-bytes}
use Rattle.arraystring_base.proofs.CutLaws.{cut-fits}
use Rattle.arraystring_core.specs.Edits.{insertion_of_cut}
use Rattle.arraystring_core.proofs.CauseLemmas.{divides, no_cause}
use Rattle.arraystring_core.proofs.EditLaws.{makes}
use Rattle.arraystring_core.proofs.array_string.ArrayString.insert_str.Goals as goal

pub splice-requires : goal.splice-requires
splice-requires g c =
    let t = c.args.self.now.text in
    let i = c.args.index in
    let at : boundary t i ≡ true = (divides _ _ c.in_ok-check_bounds_and_boundary.ensures).1 in
    let added = chars-bytes c.truncate_str.utf8 c.truncate_str.ensures in
    let within = cut-fits (chars c.args.string.now) (c.capacity.result - c.len.result) in
    let fits : size t - (i - i) + size (chars c.truncate_str.result.now) ≤ cap g.row.N = omega (arith, ap size added) in
    (search rules, (omega arith, (at, (at, (fits, omega arith)))))

pub returns : goal.returns
returns g c =
    let t = c.args.self.now.text in
    let i = c.args.index in
    let added = chars-bytes c.truncate_str.utf8 c.truncate_str.ensures in
    let left : c.capacity.result - c.len.result ≡ cap g.row.N - size t = omega arith in
    let row = insertion_of_cut t i (chars c.args.string.now) (cap g.row.N) in
    makes row _ _ _ (no_cause row.tests c.in_ok-check_bounds_and_boundary.ensures) refl
    (c.splice.ensures.replaced.text ∙ ap (λ l. front t i ++ (l ++ back t i)) (rw left at added))
