use Rattle.std.proofs.Common.{◌≡◌, ◌≤◌, subst, sym, ap, chars, length, rules, arith}
use Rattle.std.proofs.iter.TextItems.{spells}
use Rattle.arraystring.specs.Text.{cap, IsWellFormed}
use Rattle.arraystring.proofs.TextLaws.{size-borrowed, utf8-well_formed}
use Rattle.arraystring.proofs.TakenLaws.{text-gives, chars-fit}
use Rattle.arraystring_tests.proofs.tests.construct.of_text.Goals as goal

pub from_chars_unchecked-requires : goal.from_chars_unchecked-requires
from_chars_unchecked-requires g c =
    let text = c.args.text.now in
    let fits = chars-fit (λ x it. it ≡ x) spells c.chars-in-Ok.result (chars text)
    (λ it e. text-gives c.chars-in-Ok.result it text c.utf8.text c.chars-in-Ok.ensures.rest e) (cap g.row.N) c.in-Ok.ensures.0 in
    (search rules, (search rules, fits))

pub from_utf8_unchecked-requires : goal.from_utf8_unchecked-requires
from_utf8_unchecked-requires g c =
    let text = c.args.text.now in
    let borrowed : c.as_bytes.result.now ≡ text = c.as_bytes.ensures.value in
    let within : length c.as_bytes.result.now ≤ cap g.row.N = omega (arith, c.in-Ok.ensures.0, size-borrowed c.utf8.text, ap length borrowed) in
    (search rules, (subst IsWellFormed (sym borrowed) (utf8-well_formed c.utf8.text), within))

pub returns-in-Ok : goal.returns-in-Ok
returns-in-Ok g c =
    let text = c.args.text.now in
    c.from_chars-cut.ensures.whole (chars text) (λ it e. text-gives c.chars.result it text c.utf8.text c.chars.ensures.rest e)

pub returns-in-Err : goal.returns-in-Err
returns-in-Err g c =
    let text = c.args.text.now in
    c.from_chars-cut.ensures.whole (chars text) (λ it e. text-gives c.chars.result it text c.utf8.text c.chars.ensures.rest e)
