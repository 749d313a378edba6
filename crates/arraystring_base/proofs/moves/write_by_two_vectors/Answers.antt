use Rattle.std.proofs.Common.{arith}
use Rattle.arraystring_base.proofs.MoveLemmas.{copied-by-ends}
use Rattle.arraystring_base.proofs.moves.write_by_two_vectors.Goals as goal

pub returns : goal.returns
returns g c =
    copied-by-ends _ _ _ c.args.given.now _ _ c.args.at g.row.K (omega arith) c.requires.least c.requires.most
    c.vector_at-first.ensures c.vector_at-last.ensures c.put_vector.ensures c.put_vector-2.ensures
