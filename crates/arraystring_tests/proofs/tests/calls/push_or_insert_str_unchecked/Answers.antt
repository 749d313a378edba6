use Rattle.std.proofs.Common.{rules, refl, ◌+◌, ◌≤◌, arith, chars}
use Rattle.arraystring.specs.Text.{cap, size}
use Rattle.arraystring.proofs.TextLaws.{size-borrowed}
use Rattle.arraystring_tests.proofs.tests.calls.push_or_insert_str_unchecked.Goals as goal

pub push_str_unchecked-requires : goal.push_str_unchecked-requires
push_str_unchecked-requires g c =
    let borrowed = size-borrowed c.utf8.given in
    let fits : size c.args.text.now.text + size (chars c.args.given.now) ≤ cap g.row.N =
    omega (arith, borrowed, c.len.ensures.value, c.capacity.ensures, c.if-size-capacity.false) in
    (search rules, fits)

pub insert_str_unchecked-requires : goal.insert_str_unchecked-requires
insert_str_unchecked-requires g c =
    let borrowed = size-borrowed c.utf8.given in
    let fits : size c.args.text.now.text + size (chars c.args.given.now) ≤ cap g.row.N =
    omega (arith, borrowed, c.len.ensures.value, c.capacity.ensures, c.if-size-capacity.false) in
    (search rules, (c.in-Ok.ensures.0 refl, fits))
