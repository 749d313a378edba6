use Rattle.std.proofs.Common.{◌≤◌, refl, sym, arith}
use Rattle.arraystring_base.specs.Text.{size}
use Rattle.arraystring_base.proofs.CutLaws.{cut-all}
use Rattle.arraystring_core.proofs.EditLaws.{inside-past, makes}
use Rattle.arraystring_core.proofs.array_string.ArrayString.truncate.Goals as goal

pub returns-then-size-len : goal.returns-then-size-len
returns-then-size-len g c =
    let t = c.args.self.now.text in
    let whole : size t ≤ c.args.size = omega arith in
    makes _ _ _ _ (rw (inside-past t c.args.size whole)) refl (sym (cut-all whole))
