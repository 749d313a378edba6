use Rattle.arraystring.proofs.FindLastLaws.{rfind-last}
use Rattle.arraystring.proofs.laws.rfind_finds_last.Goals as goal

pub returns : goal.returns
returns c = rfind-last c.utf8.text c.args.c _ c.requires
