use Rattle.std.proofs.Common.{◌≡◌, ◌≤◌, subst, sym, ap, chars, length, arith}
use Rattle.std.proofs.iter.TextItems.{spells}
use Rattle.arraystring.specs.Text.{IsWellFormed}
use Rattle.arraystring.proofs.TextLaws.{size-borrowed, utf8-well_formed}
use Rattle.arraystring.proofs.TakenLaws.{text-gives, chars-fit}
use Rattle.arraystring_types_tests.proofs.cache_string.of_text_that_fits.Goals as goal

pub from_str_unchecked-requires : goal.from_str_unchecked-requires
from_str_unchecked-requires c =
    let text = c.args.text.now in
    let tried = c.in-Ok.ensures.whole (chars text) (λ it e. text-gives c.chars.result it text c.utf8.text c.chars.ensures.rest e) in
    tried.0

pub from_chars_unchecked-requires-clause-fits : goal.from_chars_unchecked-requires-clause-fits
from_chars_unchecked-requires-clause-fits c =
    let text = c.args.text.now in
    let tried = c.in-Ok.ensures.whole (chars text) (λ it e. text-gives c.chars.result it text c.utf8.text c.chars.ensures.rest e) in
    chars-fit (λ x it. it ≡ x) spells c.chars-in-Ok.result (chars text)
    (λ it e. text-gives c.chars-in-Ok.result it text c.utf8.text c.chars-in-Ok.ensures.rest e) 63 tried.0

pub from_utf8_unchecked-requires : goal.from_utf8_unchecked-requires
from_utf8_unchecked-requires c =
    let text = c.args.text.now in
    let tried = c.in-Ok.ensures.whole (chars text) (λ it e. text-gives c.chars.result it text c.utf8.text c.chars.ensures.rest e) in
    let borrowed : c.as_bytes.result.now ≡ text = c.as_bytes.ensures.value in
    let within : length c.as_bytes.result.now ≤ 63 = omega (arith, tried.0, size-borrowed c.utf8.text, ap length borrowed) in
    record { well_formed = subst IsWellFormed (sym borrowed) (utf8-well_formed c.utf8.text); fits = within }
