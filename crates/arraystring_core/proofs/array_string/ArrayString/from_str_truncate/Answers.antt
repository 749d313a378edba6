use Rattle.std.proofs.Common.{◌≤◌, ap, ◌∙◌, rules, chars}
use Rattle.arraystring_base.specs.Text.{size, cut}
use Rattle.arraystring_base.proofs.TextLaws.{chars-bytes}
use Rattle.arraystring_base.proofs.CutLaws.{cut-fits}
use Rattle.arraystring_core.proofs.array_string.ArrayString.from_str_truncate.Goals as goal

pub from_str_unchecked-requires : goal.from_str_unchecked-requires
from_str_unchecked-requires g c =
    let t = chars c.args.string.now in
    let made = chars-bytes c.truncate_str.utf8 c.truncate_str.ensures in
    let within : size (chars c.truncate_str.result.now) ≤ c.capacity.result = rw made (cut-fits t c.capacity.result) in
    (search rules, rw (← c.capacity.ensures) within)

pub returns : goal.returns
returns g c =
    let t = chars c.args.string.now in
    c.from_str_unchecked.ensures ∙ chars-bytes c.truncate_str.utf8 c.truncate_str.ensures ∙ ap (cut t) c.capacity.ensures
