use Rattle.std.proofs.Common.{◌≡◌, subst, rules, IsUtf8, IfNone}
use Rattle.arraystring_run.specs.declared.commands.Command.{Command}
use Rattle.arraystring_run.specs.CommandLines.{IsLineOf}
use Rattle.arraystring_run.proofs.LineLemmas.{line-utf8}
use Rattle.arraystring_run.proofs.line.command.Goals as goal

pub returns-in_err-ok-clause-none : goal.returns-in_err-ok-clause-none
returns-in_err-ok-clause-none c =
    let bad : IsUtf8 c.args.line.now → ⊥ = search rules in
    rw c.from_residual.ensures (λ d line. bad (line-utf8 c.args.line.now d line))

pub returns-clause-none : goal.returns-clause-none
returns-clause-none c =
    let whole : c.in_ok-ok.field-0.now ≡ c.args.line.now = search rules in
    subst (λ l. IfNone c.command_of_str.result ((d : Command) → IsLineOf l d → ⊥)) whole c.command_of_str.ensures.none
