use Rattle.std.proofs.Common.{◌+◌, ◌-◌, arith}
use Rattle.arraystring_base.proofs.MoveLemmas.{moved-by-ends, read-as-one}
use Rattle.arraystring_base.proofs.leaf.move_by_four_vectors.Goals as goal

pub returns : goal.returns
returns g c =
    let k = g.row.K in
    let old = c.args.all.now in
    let from = c.args.from in
    moved-by-ends old old _ _ from c.args.to (k + k) c.args.len (omega arith) (omega arith) c.requires.least
    (read-as-one old _ _ from k c.vector_at-front.ensures c.vector_at-after_front.ensures) c.put_adjacent_vectors.ensures _ _ c.requires.most
    (read-as-one old _ _ (from + (c.args.len - (k + k))) k c.vector_at-before_end.ensures c.vector_at-end.ensures)
    c.put_adjacent_vectors-2.ensures
