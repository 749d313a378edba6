use Rattle.std.proofs.Common.{sym}
use Rattle.arraystring_run.proofs.ServeLemmas.{served}
use Rattle.arraystring_run.proofs.program.serve.Goals as goal

pub returns : goal.returns
returns g c =
    let report = c.report.ensures in
    served _ c.play_if_named-played.result (sym c.capacity_of.ensures) c.play_if_named-played.ensures report.status report.line report.quiet
