use Rattle.std.proofs.Common.{◌∙◌}
use Rattle.arraystring_base.proofs.TextLaws.{pointwise-bytes}
use Rattle.arraystring_core.proofs.array_string.traits.ArrayStringPartialEq.eq.Goals as goal

pub returns : goal.returns
returns g c =
    let same = rw (c.as_str.ensures.bytes, c.as_str-2.ensures.bytes) at c.eq.ensures in
    same ∙ pointwise-bytes c.args.self.now.text c.args.other.now.text
