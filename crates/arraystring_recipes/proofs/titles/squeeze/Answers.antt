use Rattle.std.proofs.Common.{rules}
use Rattle.arraystring.proofs.KeptLaws.{kept-from_retain}
use Rattle.arraystring_recipes.specs.Titles.{is_new, last_seen}
use Rattle.arraystring_recipes.proofs.titles.squeeze.Goals as goal

pub returns : goal.returns
returns g c = kept-from_retain _ (λ p. p.0.now) is_new last_seen (λ p x b q step. search rules) _ _ _ c.retain.ensures
