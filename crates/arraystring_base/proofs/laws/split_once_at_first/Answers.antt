use Rattle.arraystring_base.proofs.FindLaws.{split_once-first}
use Rattle.arraystring_base.proofs.laws.split_once_at_first.Goals as goal

pub returns : goal.returns
returns c = split_once-first c.utf8.text c.args.c _ c.requires
