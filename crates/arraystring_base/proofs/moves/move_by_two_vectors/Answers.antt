use Rattle.std.proofs.Common.{arith}
use Rattle.arraystring_base.proofs.MoveLemmas.{moved-by-ends}
use Rattle.arraystring_base.proofs.moves.move_by_two_vectors.Goals as goal

pub returns : goal.returns
returns g c =
    moved-by-ends _ _ _ _ c.args.from c.args.to g.row.K c.args.len (omega arith) (omega arith) c.requires.least
    c.vector_at-first.ensures c.put_vector.ensures _ _ c.requires.most c.vector_at-last.ensures c.put_vector-2.ensures
