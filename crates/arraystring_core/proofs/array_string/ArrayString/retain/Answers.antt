use Rattle.std.proofs.Common.{◌+◌, ◌≤◌, ap, arith, rules}
use Rattle.arraystring_core.specs.GhostProofs.{stored-utf8}
use Rattle.arraystring_core.proofs.array_string.ArrayString.retain.Goals as goal

pub retain_in_array-requires : goal.retain_in_array-requires
retain_in_array-requires g c =
    let within : c.self.inside.start + c.self.inside.size ≤ g.row.N = omega arith in
    let small : c.self.inside.size ≤ 255 = omega arith in
    let shown = ap (λ s. s.text) c.self.view_is in
    (search rules, (within, (small, (stored-utf8 c.self.invariant, rw shown c.requires))))
