use Rattle.std.proofs.Common.{◌≡◌, refl, subst, rules, slice_range, IsUtf8, IfNone}
use Rattle.arraystring_run.specs.declared.commands.Command.{Command}
use Rattle.arraystring_run.specs.CommandLines.{IsLineOf}
use Rattle.arraystring_run.proofs.LineLemmas.{line-utf8}
use Rattle.arraystring_run.proofs.script.command_between.Goals.{in-Some, in-None+in_ok-line-in-None}
use Rattle.arraystring_run.proofs.script.command_between.Goals as goal

pub returns-in_err-line-in-None-clause-none : goal.returns-in_err-line-in-None-clause-none
returns-in_err-line-in-None-clause-none c =
    let line = slice_range c.args.script.now c.args.start c.args.end in
    let bad : IsUtf8 line → ⊥ = search rules in
    rw c.from_residual.ensures (λ d is. bad (line-utf8 line d is))

pub returns-clause-none : goal.returns-clause-none
returns-clause-none c =
    let same : c.match-text.line.now ≡ slice_range c.args.script.now c.args.start c.args.end =
    elim c.match-text.branch [
      | in-Some w ↦
          let text : w.in-Some.text.now ≡ c.args.script.now = search rules in
          rw (w.line-is, w.range-line.ensures.value, text) refl
      | in-None+in_ok-line-in-None w ↦ search rules
    ] in
    subst (λ l. IfNone c.command_of_str.result ((d : Command) → IsLineOf l d → ⊥)) same c.command_of_str.ensures.none
