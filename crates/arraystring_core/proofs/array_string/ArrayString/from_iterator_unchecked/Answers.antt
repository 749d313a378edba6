use Rattle.std.proofs.Common.{◌∙◌, arith}
use Rattle.std.proofs.iter.Next.{Yields-more}
use Rattle.arraystring_core.proofs.TakenLaws.{pieces-all}
use Rattle.arraystring_core.proofs.TakenLemmas.{of_pieces, next-fits, next-text}
use Rattle.arraystring_core.proofs.array_string.ArrayString.from_iterator_unchecked.Goals as goal

pub loop-piece-init : goal.loop-piece-init
loop-piece-init g c =
    let on = c.requires.ends c.into_iter-piece-iterator.result c.into_iter-piece-iterator.ensures.into_iter_gives in
    record {
      can = on.0;
      ends = on.1;
      text = c.new-made.ensures;
    }

pub push_str_unchecked-requires : goal.push_str_unchecked-requires
push_str_unchecked-requires g c =
    let x = c.in-Some.piece in
    let xs = c.loop-piece.yielded in
    let yields = Yields-more g.I.IntoIter.Iterator.next_gives _ xs _ x _ c.loop-piece.yielded_by c.in-Some.ensures.steps in
    let fits = c.requires.fits c.into_iter-piece-iterator.result c.into_iter-piece-iterator.ensures.into_iter_gives _ c.next.new.self yields in
    omega (arith, next-fits of_pieces xs c.loop-piece.invariant.text x fits)

pub loop-piece-preserved : goal.loop-piece-preserved
loop-piece-preserved g c =
    let inv = c.loop-piece.invariant in
    let on = c.in-Some.ensures.goes.on inv.ends in
    record {
      can = on.0;
      ends = on.1;
      text = next-text of_pieces c.loop-piece.yielded inv.text c.in-Some.piece c.push_str_unchecked.ensures;
    }

pub returns-clause-whole : goal.returns-clause-whole
returns-clause-whole g c = λ all gives.
    let steps = g.I.IntoIter.Iterator.next_gives in
    c.loop-piece.invariant.text ∙ pieces-all g.I.IntoIterator.into_iter_gives steps c.args.pieces all gives c.loop-piece.yielded (
      c.into_iter-piece-iterator.result,
      c.into_iter-piece-iterator.ensures.into_iter_gives,
      (c.next.new.self, (c.loop-piece.piece-iterator, c.loop-piece.yielded_by, c.in-None.ensures.steps)),
    )
