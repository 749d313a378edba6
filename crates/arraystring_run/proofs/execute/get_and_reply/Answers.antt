use Rattle.std.proofs.Common.{◌≤◌, ap, arith, chars, rules}
use Rattle.arraystring.specs.Text.{size, cap}
use Rattle.arraystring.proofs.BoundaryLaws.{part-fits, part_in-found}
use Rattle.arraystring.proofs.RangeEndLaws.{at_own_bounds}
use Rattle.arraystring_run.proofs.execute.get_and_reply.Goals as goal

pub from_str_unchecked-requires : goal.from_str_unchecked-requires
from_str_unchecked-requires g c =
    let t = c.args.text.now.text in
    let is = part_in-found t c.args.start c.args.end {found = chars c.in-Some.found.now} (at_own_bounds c.in-Some.ensures tt) in
    let fits : size (chars c.in-Some.found.now) ≤ cap g.row.N = omega (arith, ap size is.3, part-fits t c.args.start c.args.end) in
    (search rules, fits)
