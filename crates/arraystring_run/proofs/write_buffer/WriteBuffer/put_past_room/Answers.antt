use Rattle.std.proofs.Common.{subst, arith}
use Rattle.std.proofs.KnownBytes.{Appends-trans}
use Rattle.std.proofs.lemmas.Grind.{common_steps}
use Rattle.std.proofs.lemmas.Result.{on_ok_weaker}
use Rattle.arraystring_run.specs.Writing.{AppendsPrefix}
use Rattle.arraystring_run.proofs.PrintLemmas.{front-all, front-more, front-then, filled, passed-all}
use Rattle.arraystring_run.proofs.write_buffer.WriteBuffer.put_past_room.Goals as goal

pub returns-in_err-send-clause-part : goal.returns-in_err-send-clause-part
returns-in_err-send-clause-part g c =
    subst (AppendsPrefix _ _) (filled _ _ _ _ c.split_at.result.1.now _ c.split_at.ensures.front c.split_at.ensures.back c.add_unchecked.ensures)
    (front-more _ _ _ _ c.in_err-send.ensures.part)

pub returns-then-rest-gt-BUFFER_SIZE-clause-whole : goal.returns-then-rest-gt-BUFFER_SIZE-clause-whole
returns-then-rest-gt-BUFFER_SIZE-clause-whole g c =
    on_ok_weaker c.write_bytes.result (λ p. passed-all _ _ _ _ _ _
    (filled _ _ _ _ _ _ c.split_at.ensures.front c.split_at.ensures.back c.add_unchecked.ensures) c.in_ok-send.ensures.sent
    (Appends-trans _ _ _ _ _ c.in_ok-send.ensures.whole p)) c.write_bytes.ensures.whole

pub returns-then-rest-gt-BUFFER_SIZE-clause-part : goal.returns-then-rest-gt-BUFFER_SIZE-clause-part
returns-then-rest-gt-BUFFER_SIZE-clause-part g c =
    subst (AppendsPrefix _ _) (filled _ _ _ _ _ _ c.split_at.ensures.front c.split_at.ensures.back c.add_unchecked.ensures)
    (front-then _ _ _ _ _ c.in_ok-send.ensures.whole c.write_bytes.ensures.part)

pub returns-clause-whole : goal.returns-clause-whole
returns-clause-whole g c = grind (arith, common_steps)

pub returns-clause-part : goal.returns-clause-part
returns-clause-part g c =
    subst (AppendsPrefix _ _) (filled _ _ _ _ c.split_at.result.1.now _ c.split_at.ensures.front c.split_at.ensures.back c.add_unchecked.ensures)
    (front-more _ _ _ _ (front-all _ _ _ c.in_ok-send.ensures.whole))
