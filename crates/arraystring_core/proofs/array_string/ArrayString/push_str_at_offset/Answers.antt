use Rattle.std.proofs.Common.{◌≡◌, ◌-◌, ◌+◌, ◌≤◌, ◌++◌, chars, arith, ap, refl, ◌∙◌}
use Rattle.arraystring_base.specs.Text.{size, cap}
use Rattle.arraystring_base.proofs.TextLaws.{chars-bytes}
use Rattle.arraystring_base.proofs.CutLaws.{cut-fits}
use Rattle.arraystring_core.proofs.EditLaws.{makes, addition-fits}
use Rattle.arraystring_core.proofs.array_string.ArrayString.push_str_at_offset.Goals as goal

pub returns : goal.returns
returns g c =
    let t = c.args.self.now.text in
    let added = chars-bytes c.truncate_str.utf8 c.truncate_str.ensures in
    let left : c.capacity.result - c.len.result ≡ cap g.row.N - size t = omega arith in
    let room : size t + size (chars c.truncate_str.result.now) ≤ cap g.row.N = omega (arith, ap size added, cut-fits (chars c.args.string.now) (c.capacity.result - c.len.result)) in
    makes _ t _ _ refl refl (addition-fits _ _ _ room c.try_push_str.ensures ∙ ap (λ l. t ++ l) (rw left at added))
