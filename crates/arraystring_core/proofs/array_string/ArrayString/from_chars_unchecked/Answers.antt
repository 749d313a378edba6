use Rattle.std.proofs.Common.{◌∙◌, arith}
use Rattle.std.proofs.iter.Next.{Yields-more}
use Rattle.arraystring_core.proofs.TakenLaws.{chars-all}
use Rattle.arraystring_core.proofs.TakenLemmas.{of_characters, next-fits, next-text}
use Rattle.arraystring_core.proofs.array_string.ArrayString.from_chars_unchecked.Goals as goal

pub loop-ch-init : goal.loop-ch-init
loop-ch-init g c =
    let on = c.requires.ends c.into_iter-ch-iterator.result c.into_iter-ch-iterator.ensures.into_iter_gives in
    record {
      can = on.0;
      ends = on.1;
      text = c.new-made.ensures;
    }

pub push_unchecked-requires : goal.push_unchecked-requires
push_unchecked-requires g c =
    let x = c.in-Some.ch in
    let xs = c.loop-ch.yielded in
    let yields = Yields-more g.I.IntoIter.Iterator.next_gives _ xs _ x _ c.loop-ch.yielded_by c.in-Some.ensures.steps in
    let fits = c.requires.fits c.into_iter-ch-iterator.result c.into_iter-ch-iterator.ensures.into_iter_gives _ c.next.new.self yields in
    omega (arith, next-fits of_characters xs c.loop-ch.invariant.text x fits)

pub loop-ch-preserved : goal.loop-ch-preserved
loop-ch-preserved g c =
    let inv = c.loop-ch.invariant in
    let on = c.in-Some.ensures.goes.on inv.ends in
    record {
      can = on.0;
      ends = on.1;
      text = next-text of_characters c.loop-ch.yielded inv.text c.in-Some.ch c.push_unchecked.ensures;
    }

pub returns-clause-whole : goal.returns-clause-whole
returns-clause-whole g c = λ all gives.
    let steps = g.I.IntoIter.Iterator.next_gives in
    c.loop-ch.invariant.text ∙ chars-all g.I.IntoIterator.into_iter_gives steps c.args.characters all gives c.loop-ch.yielded (
      c.into_iter-ch-iterator.result,
      c.into_iter-ch-iterator.ensures.into_iter_gives,
      (c.next.new.self, (c.loop-ch.ch-iterator, c.loop-ch.yielded_by, c.in-None.ensures.steps)),
    )
