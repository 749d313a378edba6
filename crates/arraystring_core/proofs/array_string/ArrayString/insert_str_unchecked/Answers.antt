use Rattle.std.proofs.Common.{◌+◌, ◌-◌, ◌≤◌, chars, arith, rules}
use Rattle.arraystring_base.specs.Text.{size, cap}
use Rattle.arraystring_core.proofs.array_string.ArrayString.insert_str_unchecked.Goals as goal

pub splice-requires : goal.splice-requires
splice-requires g c =
    let fits : size c.args.self.now.text - (c.args.index - c.args.index) + size (chars c.args.string.now) ≤ cap g.row.N = omega arith in
    (search rules, (omega arith, (c.requires.boundary, (c.requires.boundary, (fits, omega arith)))))
