use Rattle.std.proofs.Common.{◌≤◌, arith}
use Rattle.std.proofs.lemmas.Str.{IsCharBoundary-start}
use Rattle.arraystring_base.proofs.CutLemmas.{near-boundary}
use Rattle.arraystring_base.proofs.utf8.last_boundary.Goals as goal

-- the first byte of a text continues no character
pub overflow_sub-end : goal.overflow_sub-end
overflow_sub-end c =
    let start = IsCharBoundary-start c.args.text.now c.utf8.text in
    grind (arith, start)

pub loop-all-smaller : goal.loop-all-smaller
loop-all-smaller c = let above : 1 ≤ c.loop-all.end = overflow_sub-end c in omega (arith, above)

pub loop-all-preserved : goal.loop-all-preserved
loop-all-preserved c = let above : 1 ≤ c.loop-all.end = overflow_sub-end c in grind (arith, above)

-- a boundary is at most three bytes back, and none is after the end that was reached, so this is the one
pub returns-else-limit-end-lt3-clause-boundary : goal.returns-else-limit-end-lt3-clause-boundary
returns-else-limit-end-lt3-clause-boundary c =
    let found = near-boundary c.args.text.now c.args.limit c.utf8.text c.requires.within in
    grind (arith, found, c.loop-all.invariant.nearest found.0)
