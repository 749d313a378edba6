use Rattle.std.proofs.Common.{◌≡◌, ℕ, List, ◌++◌}
use Rattle.std.specs.Io.KnownBytes.{Appends}
use Rattle.arraystring_run.proofs.writing.write_bytes.Given as goal

abbrev pub invariant-loop : goal.invariant-loop
invariant-loop g l = (done : List ℕ) × (l.bytes ≡ done ++ l.rest) × Appends (g.O.Write.contents l.initial.output) (g.O.Write.contents l.output) done
