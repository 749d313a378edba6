use Rattle.std.proofs.Common.{◌∙◌, ap}
use Rattle.arraystring_base.specs.Text.{boundary}
use Rattle.arraystring_core.proofs.array_string.ArrayString.is_boundary.Goals as goal

pub returns : goal.returns
returns g c =
    c.is_boundary.ensures ∙ ap (λ t. boundary t c.args.at) c.as_str.ensures.chars
