use Rattle.std.proofs.Common.{refl, arith, rules}
use Rattle.arraystring_base.proofs.TextLaws.{size-borrowed}
use Rattle.arraystring_core.proofs.array_string.ArrayString.try_from_str.Goals as goal

pub returns-then-string-capacity : goal.returns-then-string-capacity
returns-then-string-capacity g c = (omega (arith, size-borrowed c.utf8.string), refl)

pub from_str_unchecked-requires : goal.from_str_unchecked-requires
from_str_unchecked-requires g c = (search rules, omega (arith, size-borrowed c.utf8.string))

pub returns : goal.returns
returns g c = (omega (arith, size-borrowed c.utf8.string), c.from_str_unchecked.ensures)
