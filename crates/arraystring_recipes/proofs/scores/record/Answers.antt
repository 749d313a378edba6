use Rattle.arraystring.proofs.MapLaws.{updated-others}
use Rattle.arraystring_recipes.proofs.scores.record.Goals as goal

pub returns-clause-others : goal.returns-clause-others
returns-clause-others c = updated-others _ _ _ c.in_ok-old.ensures.updates.2
