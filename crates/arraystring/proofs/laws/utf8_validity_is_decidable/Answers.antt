use Rattle.arraystring.proofs.WellFormedLaws.{well_formed-or_not}
use Rattle.arraystring.proofs.laws.utf8_validity_is_decidable.Goals as goal

pub returns : goal.returns
returns c = well_formed-or_not c.args.given.now
