use Rattle.std.proofs.Common.{◌∙◌, sym, ap, refl, chars}
use Rattle.arraystring_base.specs.Text.{cap, cut}
use Rattle.arraystring_base.proofs.CutLaws.{text-cut}
use Rattle.arraystring_base.proofs.TextLaws.{well_formed-utf8, utf8-well_formed, chars-bytes, text-chars}
use Rattle.arraystring_core.proofs.array_string.ArrayString.from_utf8.Goals as goal

pub returns : goal.returns
returns g c =
    let given = c.args.given.now in
    let read = c.in-Ok.ensures in
    record {
      well_formed = (λ _. utf8-well_formed read.1, λ _. refl);
      cut = λ t is e. c.from_str_truncate.ensures ∙ ap (λ bs. cut (chars bs) (cap g.row.N)) read.0
          ∙ ap (λ l. cut l (cap g.row.N)) (chars-bytes read.1 (sym e));
      text = rw (c.from_str_truncate.ensures, read.0) (text-cut (chars given) (cap g.row.N) (text-chars read.1));
    }

pub returns-in_default-clause-well_formed : goal.returns-in_default-clause-well_formed
returns-in_default-clause-well_formed g c = (λ e. cc, λ well. absurd (c.in_default.ensures (well_formed-utf8 well)))
