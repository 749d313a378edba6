use Rattle.std.proofs.Common.{rules}
use Rattle.arraystring.proofs.TextLaws.{utf8-is}
use Rattle.arraystring_run.proofs.printing.buffer_reply.Goals as goal

pub returns-in-Char : goal.returns-in-Char
returns-in-Char g c = rw (c.in-Char.is, utf8-is c.in-Char.ch) (search rules)
