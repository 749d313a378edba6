use Rattle.arraystring_run.proofs.TightLemmas.{first_tight-is}
use Rattle.arraystring_run.proofs.laws.first_tight_is_found.Goals as goal

pub returns : goal.returns
returns c = first_tight-is
