use Rattle.std.proofs.Common.{sym}
use Rattle.arraystring.proofs.TextLaws.{size-borrowed}
use Rattle.arraystring_run.proofs.tight.size_of_text.Goals as goal

pub returns : goal.returns
returns c = sym (size-borrowed c.utf8.given)
