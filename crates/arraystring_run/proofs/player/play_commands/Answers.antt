use Rattle.std.proofs.Common.{rules}
use Rattle.arraystring_run.proofs.player.play_commands.Goals as goal

pub returns-clause-part : goal.returns-clause-part
returns-clause-part g c = search rules
