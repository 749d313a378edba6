use Rattle.arraystring.proofs.CharacterLaws.{next_back-last}
use Rattle.arraystring.proofs.laws.chars_next_back_is_last.Goals as goal

pub returns : goal.returns
returns c = let was = c.requires in next_back-last c.utf8.text c.args.last was.0 was.1 was.2 was.3
