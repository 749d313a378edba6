use Rattle.std.proofs.Common.{◌++◌, sym, ap, ◌∙◌, append_assoc}
use Rattle.std.proofs.KnownBytes.{Appends-trans}
use Rattle.arraystring_run.proofs.PrintLemmas.{appended-all, front-all, front-kept}
use Rattle.arraystring_run.proofs.writing.write_bytes.Goals as goal

pub loop-preserved : goal.loop-preserved
loop-preserved g c =
    let (done, split, appended) = c.loop.invariant in
    let (more, parts, appended_more) = c.in_ok-rest.ensures.some in (
      done ++ more,
      split ∙ ap (λ l. done ++ l) parts ∙ sym (append_assoc done more c.in_ok-rest.rest.now),
      Appends-trans _ _ _ _ _ appended appended_more,
    )

pub returns-then-is_empty-clause-whole : goal.returns-then-is_empty-clause-whole
returns-then-is_empty-clause-whole g c =
    let (done, parts, appended) = c.loop.invariant in
    appended-all _ _ _ done c.loop.rest.now parts c.if-is_empty.ensures appended

pub returns-then-is_empty-clause-part : goal.returns-then-is_empty-clause-part
returns-then-is_empty-clause-part g c = front-all _ _ _ (returns-then-is_empty-clause-whole g c)

pub returns-in_err-rest-clause-part : goal.returns-in_err-rest-clause-part
returns-in_err-rest-clause-part g c =
    let (done, parts, appended) = c.loop.invariant in
    front-kept _ _ _ _ done c.loop.rest.now parts appended c.in_err-rest.ensures.none
