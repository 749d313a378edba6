use Rattle.std.proofs.Common.{◌∙◌, arith}
use Rattle.arraystring_base.proofs.CutLaws.{cut-borrowed}
use Rattle.arraystring_base.proofs.CutLemmas.{cut-at}
use Rattle.arraystring_base.proofs.utf8.truncate_str_counted.Goals as goal

pub returns-then-text-limit-clause-value : goal.returns-then-text-limit-clause-value
returns-then-text-limit-clause-value c = cut-borrowed c.args.text.now c.args.size c.utf8.text (omega arith)

pub returns-clause-value : goal.returns-clause-value
returns-clause-value c =
    let cut = c.last_boundary-end.ensures in
    let end = c.last_boundary-end.result in
    c.text_before_boundary.ensures ∙ cut-at c.args.text.now c.args.size end c.utf8.text cut.boundary cut.at_most cut.nearest
