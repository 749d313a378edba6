use Rattle.std.proofs.Common.{◌++◌}
use Rattle.std.proofs.lemmas.Result.{on_ok_weaker}
use Rattle.arraystring_run.proofs.PrintLemmas.{waits-more, passed-then, passed-front}
use Rattle.arraystring_run.proofs.printing.buffer_prefix_and_text.Goals as goal

pub returns-in_err-put-clause-part : goal.returns-in_err-put-clause-part
returns-in_err-put-clause-part g c =
    waits-more _ _ c.args.waiting.now (c.args.prefix.now ++ c.args.text.now) _
    (waits-more _ _ c.args.waiting.now c.args.prefix.now _ c.in_err-put.ensures.part)

pub returns-in_err-put-2-clause-part : goal.returns-in_err-put-2-clause-part
returns-in_err-put-2-clause-part g c =
    waits-more _ _ c.args.waiting.now (c.args.prefix.now ++ c.args.text.now) _
    (passed-front _ _ _ _ _ _ _ c.in_ok-put.ensures.whole c.in_err-put-2.ensures.part)

pub returns-clause-whole : goal.returns-clause-whole
returns-clause-whole g c =
    on_ok_weaker c.put-3.result
    (passed-then _ _ _ _ _ _ _ (passed-then _ _ _ _ _ _ _ c.in_ok-put.ensures.whole _ c.in_ok-put-2.ensures.whole) _) c.put-3.ensures.whole

pub returns-clause-part : goal.returns-clause-part
returns-clause-part g c =
    passed-front _ _ _ _ _ _ _ (passed-then _ _ _ _ _ _ _ c.in_ok-put.ensures.whole _ c.in_ok-put-2.ensures.whole) c.put-3.ensures.part
