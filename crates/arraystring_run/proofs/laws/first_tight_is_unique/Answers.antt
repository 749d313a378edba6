use Rattle.arraystring_run.proofs.TightLemmas.{first_tight-only}
use Rattle.arraystring_run.proofs.laws.first_tight_is_unique.Goals as goal

pub returns : goal.returns
returns c = first_tight-only
