use Rattle.std.proofs.Common.{◌∙◌, ap, arith, rules, length}
use Rattle.arraystring_base.specs.Text.{bytes}
use Rattle.arraystring_base.proofs.TextLaws.{well_formed-utf8, size-borrowed, bytes-chars, text-chars}
use Rattle.arraystring_core.proofs.array_string.ArrayString.from_utf8_unchecked.Goals as goal

pub from_utf8_unchecked-requires : goal.from_utf8_unchecked-requires
from_utf8_unchecked-requires g c = well_formed-utf8 c.requires.well_formed

pub from_str_unchecked-requires : goal.from_str_unchecked-requires
from_str_unchecked-requires g c =
    (search rules, omega (arith, size-borrowed c.from_utf8_unchecked.utf8, ap length c.from_utf8_unchecked.ensures))

pub returns-clause-bytes : goal.returns-clause-bytes
returns-clause-bytes g c =
    ap bytes c.from_str_unchecked.ensures ∙ bytes-chars c.from_utf8_unchecked.utf8
    ∙ c.from_utf8_unchecked.ensures

pub returns-clause-text : goal.returns-clause-text
returns-clause-text g c =
    rw c.from_str_unchecked.ensures (text-chars c.from_utf8_unchecked.utf8)
