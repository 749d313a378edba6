use Rattle.std.proofs.Common.{sym, subst, IfNone}
use Rattle.arraystring_run.specs.declared.commands.Command.{Command}
use Rattle.arraystring_run.specs.CommandLines.{IsLineOf}
use Rattle.arraystring_run.proofs.line.command_of_str.Goals as goal

pub returns-in-Some-clause-none : goal.returns-in-Some-clause-none
returns-in-Some-clause-none c =
    subst (λ l. IfNone c.command_with_arguments.result ((d : Command) → IsLineOf l d → ⊥)) (sym c.in-Some.ensures.some.0) c.command_with_arguments.ensures.none
