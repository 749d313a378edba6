use Rattle.arraystring.proofs.FindLastLaws.{rsplit_once-last}
use Rattle.arraystring.proofs.laws.rsplit_once_at_last.Goals as goal

pub returns : goal.returns
returns c = rsplit_once-last c.utf8.text c.args.c _ c.requires
