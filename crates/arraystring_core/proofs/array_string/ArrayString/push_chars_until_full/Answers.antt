use Rattle.std.proofs.Common.{◌++◌, ◌∷◌, [], sym, arith, inl, inr, append-nil}
use Rattle.std.proofs.iter.Next.{Yields-more}
use Rattle.arraystring_base.specs.Text.{cap}
use Rattle.arraystring_base.proofs.TextLaws.{width-bounds}
use Rattle.arraystring_core.proofs.EditLaws.{addition-made, addition-refused}
use Rattle.arraystring_core.proofs.TakenLemmas.{cut-none, of_characters, added-all, added-more, added-past, added-none}
use Rattle.arraystring_core.proofs.array_string.ArrayString.push_chars_until_full.Goals as goal

pub loop-ch-init : goal.loop-ch-init
loop-ch-init g c =
    let old = c.args.self.now.text in
    let on = c.requires c.into_iter-ch-iterator.result c.into_iter-ch-iterator.ensures.into_iter_gives in
    record {
      can = on.0;
      ends = on.1;
      added = record { text = sym (append-nil old); fits = omega (arith, c.text_fits.ensures) };
    }

pub loop-ch-preserved : goal.loop-ch-preserved
loop-ch-preserved g c =
    let inv = c.loop-ch.invariant in
    let on = c.in-Some.ensures.goes.on inv.ends in
    let ch = c.in-Some.ch in
    record {
      can = on.0;
      ends = on.1;
      added = added-more of_characters inv.added ch (addition-made (ch ∷ []) (cap g.row.N) c.in-Ok.ensures);
    }

pub returns-in-Err : goal.returns-in-Err
returns-in-Err g c =
    let inv = c.loop-ch.invariant in
    let x = c.in-Some.ch in
    let xs = c.loop-ch.yielded in
    let refused = addition-refused (x ∷ []) (cap g.row.N) c.in-Err.ensures in
    let past = added-past of_characters inv.added x refused.0 in (
      xs ++ x ∷ [],
      (
        c.into_iter-ch-iterator.result,
        c.into_iter-ch-iterator.ensures.into_iter_gives,
        inr (c.next.new.self, Yields-more g.I.IntoIter.Iterator.next_gives _ xs _ x _ c.loop-ch.yielded_by c.in-Some.ensures.steps, past),
      ),
      past.4,
      added-none of_characters inv.added x refused.2 (cut-none x _ (omega (arith, refused.0, width-bounds x))),
    )

pub returns : goal.returns
returns g c =
    let all = added-all c.loop-ch.invariant.added in (
      c.loop-ch.yielded,
      (
        c.into_iter-ch-iterator.result,
        c.into_iter-ch-iterator.ensures.into_iter_gives,
        inl ((c.next.new.self, (c.loop-ch.ch-iterator, c.loop-ch.yielded_by, c.in-None.ensures.steps)), all.0),
      ),
      all.0,
      all.1,
    )
