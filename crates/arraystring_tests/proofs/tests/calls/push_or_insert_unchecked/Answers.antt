use Rattle.std.proofs.Common.{rules, refl, ◌≡◌, ◌+◌, ◌≤◌, sym, ◌∙◌, arith}
use Rattle.arraystring.specs.Text.{cap, size, width}
use Rattle.arraystring.proofs.TextLaws.{width-is}
use Rattle.arraystring_tests.proofs.tests.calls.push_or_insert_unchecked.Goals as goal

pub push_unchecked-requires : goal.push_unchecked-requires
push_unchecked-requires g c =
    let wide : c.len_utf8.result ≡ width c.args.ch = c.len_utf8.ensures.value ∙ sym (width-is c.args.ch) in
    let fits : size c.args.text.now.text + width c.args.ch ≤ cap g.row.N =
    omega (arith, wide, c.len.ensures.value, c.capacity.ensures, c.if-size-capacity.false) in
    (search rules, fits)

pub insert_unchecked-requires : goal.insert_unchecked-requires
insert_unchecked-requires g c =
    let wide : c.len_utf8.result ≡ width c.args.ch = c.len_utf8.ensures.value ∙ sym (width-is c.args.ch) in
    let fits : size c.args.text.now.text + width c.args.ch ≤ cap g.row.N =
    omega (arith, wide, c.len.ensures.value, c.capacity.ensures, c.if-size-capacity.false) in
    (search rules, (c.in-Ok.ensures.0 refl, fits))
