use Rattle.std.proofs.Common.{◌++◌, ◌∷◌, [], sym, arith, inl, inr, append-nil, chars}
use Rattle.std.proofs.iter.Next.{Yields-more}
use Rattle.arraystring_base.specs.Text.{cap}
use Rattle.arraystring_core.proofs.EditLaws.{addition-made, addition-refused}
use Rattle.arraystring_core.proofs.TakenLemmas.{of_pieces, added-all, added-more, added-past, added-part}
use Rattle.arraystring_core.proofs.array_string.ArrayString.push_strs_until_full.Goals as goal

pub loop-piece-init : goal.loop-piece-init
loop-piece-init g c =
    let old = c.args.self.now.text in
    let on = c.requires c.into_iter-piece-iterator.result c.into_iter-piece-iterator.ensures.into_iter_gives in
    record {
      can = on.0;
      ends = on.1;
      added = record { text = sym (append-nil old); fits = omega (arith, c.text_fits.ensures) };
    }

pub loop-piece-preserved : goal.loop-piece-preserved
loop-piece-preserved g c =
    let inv = c.loop-piece.invariant in
    let on = c.in-Some.ensures.goes.on inv.ends in
    let piece = c.in-Some.piece in
    record {
      can = on.0;
      ends = on.1;
      added = added-more of_pieces inv.added piece (addition-made (chars piece.now) (cap g.row.N) c.in-Ok.ensures);
    }

pub returns-in-Err : goal.returns-in-Err
returns-in-Err g c =
    let inv = c.loop-piece.invariant in
    let x = c.in-Some.piece in
    let xs = c.loop-piece.yielded in
    let refused = addition-refused (chars x.now) (cap g.row.N) c.in-Err.ensures in
    let past = added-past of_pieces inv.added x refused.0 in (
      xs ++ x ∷ [],
      (
        c.into_iter-piece-iterator.result,
        c.into_iter-piece-iterator.ensures.into_iter_gives,
        inr (c.next.new.self, Yields-more g.I.IntoIter.Iterator.next_gives _ xs _ x _ c.loop-piece.yielded_by c.in-Some.ensures.steps, past),
      ),
      past.4,
      added-part of_pieces inv.added x refused.2 c.push_str.ensures.ok,
    )

pub returns : goal.returns
returns g c =
    let all = added-all c.loop-piece.invariant.added in (
      c.loop-piece.yielded,
      (
        c.into_iter-piece-iterator.result,
        c.into_iter-piece-iterator.ensures.into_iter_gives,
        inl ((c.next.new.self, (c.loop-piece.piece-iterator, c.loop-piece.yielded_by, c.in-None.ensures.steps)), all.0),
      ),
      all.0,
      all.1,
    )
