use Rattle.std.proofs.Common.{◌∙◌, rules, rules, ap, sym}
use Rattle.arraystring.specs.Drained.{drain_result_as_text}
use Rattle.arraystring_run.specs.Effects.{Text, reply_of_result}
use Rattle.arraystring_run.proofs.execute.reply_of_drain_result.Goals as goal

pub from_str_unchecked-requires : goal.from_str_unchecked-requires
from_str_unchecked-requires g c =
    let same = c.as_str-left.ensures.chars in
    (search rules, rw same c.as_str-left.ensures.fits)

pub returns-in-Ok : goal.returns-in-Ok
returns-in-Ok g c =
    let same = c.as_str-left.ensures.chars in
    ap Text (c.from_str_unchecked.ensures ∙ same) ∙ ap (λ a. reply_of_result Text (drain_result_as_text a)) (sym c.in-Ok.is)
