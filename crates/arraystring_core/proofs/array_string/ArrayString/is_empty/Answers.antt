use Rattle.std.proofs.Common.{sym, ap, ◌∙◌, eq-eqb}
use Rattle.std.proofs.lemmas.Bool.{eqb-true}
use Rattle.arraystring_base.specs.Text.{size}
use Rattle.arraystring_core.proofs.StoredLaws.{opened-size}
use Rattle.arraystring_base.proofs.TextLaws.{empty-size}
use Rattle.arraystring_core.proofs.array_string.ArrayString.is_empty.Goals as goal

pub returns : goal.returns
returns g c =
    let long = opened-size c.self.invariant c.self.view_is in
    (λ e. empty-size (long ∙ eqb-true _ 0 e), λ e. eq-eqb _ 0 (sym long ∙ ap size e))
