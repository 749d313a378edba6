use Rattle.std.proofs.Common.{◌∙◌, ap, length, map, sym}
use Rattle.arraystring.specs.Text.{cap}
use Rattle.arraystring_run.specs.Effects.{view_of_reply}
use Rattle.arraystring_run.proofs.RunLemmas.{is_empty-none, of-none}
use Rattle.arraystring_run.proofs.TightLemmas.{first_tight-at}
use Rattle.arraystring_run.proofs.runs.run.Goals.{then-not-is_empty, else-not-is_empty}
use Rattle.arraystring_run.proofs.runs.run.Goals as goal

pub returns-clause-replies : goal.returns-clause-replies
returns-clause-replies g c = elim c.if-not-is_empty.branch [
  | then-not-is_empty w ↦ ap (λ v. map view_of_reply v.items) w.replies-is ∙ w.execute_all_and_find_tight-first_tight.ensures.replies
  | else-not-is_empty w ↦
      ap (λ v. map view_of_reply v.items) w.replies-is ∙ ap (map view_of_reply) c.in_ok-replies.ensures.items
      ∙ sym (of-none _ c.args.text.now.text (cap g.row.N) w.if-not-is_empty.ensures).0
]

pub returns-clause-one_each : goal.returns-clause-one_each
returns-clause-one_each g c = elim c.if-not-is_empty.branch [
  | then-not-is_empty w ↦ ap (λ v. v.len) w.replies-is ∙ w.execute_all_and_find_tight-first_tight.ensures.one_each
  | else-not-is_empty w ↦
      ap (λ v. v.len) w.replies-is ∙ c.in_ok-replies.ensures.len ∙ sym (ap length (is_empty-none c.args.commands.now w.if-not-is_empty.ensures))
]

pub returns-clause-text : goal.returns-clause-text
returns-clause-text g c = elim c.if-not-is_empty.branch [
  | then-not-is_empty w ↦ ap (λ t. t.text) w.text-is ∙ w.execute_all_and_find_tight-first_tight.ensures.text
  | else-not-is_empty w ↦ ap (λ t. t.text) w.text-is ∙ sym (of-none _ c.args.text.now.text (cap g.row.N) w.if-not-is_empty.ensures).1
]

pub returns-clause-first_tight : goal.returns-clause-first_tight
returns-clause-first_tight g c = elim c.if-not-is_empty.branch [
  | then-not-is_empty w ↦ first_tight-at _ _ _ _ (w.first_tight-is ∙ w.execute_all_and_find_tight-first_tight.ensures.first_tight)
  | else-not-is_empty w ↦
      first_tight-at _ _ _ _ (w.first_tight-is ∙ sym (of-none _ c.args.text.now.text (cap g.row.N) w.if-not-is_empty.ensures).2)
]
