use Rattle.std.specs.Io.KnownBytes.{Consumes}
use Rattle.arraystring_run.proofs.player.read_all.Given as goal

abbrev pub invariant-loop : goal.invariant-loop
invariant-loop g l = Consumes (g.I.Read.remaining l.initial.input) (g.I.Read.remaining l.input) l.bytes.items
