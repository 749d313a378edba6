use Rattle.std.proofs.Common.{◌∙◌, subst}
use Rattle.std.proofs.lemmas.Option.{IfSome_then}
use Rattle.std.proofs.lemmas.Result.{on_ok_weaker}
use Rattle.std.specs.Io.KnownBytes.{Appends}
use Rattle.arraystring.specs.Text.{cap}
use Rattle.arraystring_run.specs.LinesOfScripts.{lines, AreLinesOfCommands}
use Rattle.arraystring_run.specs.Printing.{run_printed}
use Rattle.arraystring_run.proofs.player.play.Goals as goal

pub returns-clause-played : goal.returns-clause-played
returns-clause-played g c =
    let cs = c.in_ok-commands.commands.items in
    let old = g.O.Write.contents c.args.output.now in
    let new = g.O.Write.contents c.play_commands.new.output in
    on_ok_weaker c.play_commands.result (λ written. IfSome_then (g.I.Read.remaining c.args.input.now) c.in_ok-script.ensures.whole (λ given same. (
      cs,
      subst (λ l. AreLinesOfCommands (lines l) cs) (c.deref.ensures.value ∙ same) c.in_ok-commands.ensures.accepted,
      subst (λ l. Appends old new (run_printed l (cap g.row.N))) c.deref-2.ensures.value written,
    ))) c.play_commands.ensures.whole
