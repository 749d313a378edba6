use Rattle.arraystring_run.proofs.writing.write_once.Goals as goal

pub returns-then-ne-clause-bytes : goal.returns-then-ne-clause-bytes
returns-then-ne-clause-bytes g c = c.in-Err.ensures.bytes
