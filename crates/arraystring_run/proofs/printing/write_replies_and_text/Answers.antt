use Rattle.std.proofs.Common.{◌≡◌, ℕ, List, [], ◌++◌, ◌+◌, ◌<◌, ◌≤◌, length, get_or, refl, sym, append_assoc, map, drop, Option, Result, Ok, Err, OnOk}
use Rattle.std.proofs.lemmas.List.{append-nil, drop_more, drop_all}
use Rattle.std.proofs.KnownBytes.{Appends-nil, Appends-kept}
use Rattle.arraystring_run.specs.Effects.{view_of_reply}
use Rattle.arraystring_run.specs.LinesOfScripts.{with_newline}
use Rattle.arraystring_run.specs.Printing.{reply_line, replies_printed}
use Rattle.arraystring_run.specs.Writing.{PassesThroughBuffer}
use Rattle.arraystring_run.specs.declared.commands.Reply.{Reply}
use Rattle.arraystring_run.proofs.PrintLemmas.{front-all, front-more, passed-then, passed-front, sent-all, sent-front}
use Rattle.arraystring_run.proofs.printing.write_replies_and_text.Invariants.{IsPartWritten}
use Rattle.arraystring_run.proofs.printing.write_replies_and_text.Goals as goal

-- the lines of the replies, of which those before i are printed
one-more : {N : ℕ} (rs : List (Reply N)) (i : ℕ) (r : Reply N) (done : List ℕ) → i < length rs → r ≡ get_or rs i r
    → replies_printed (map view_of_reply rs) ≡ done ++ replies_printed (map view_of_reply (drop i rs))
    → replies_printed (map view_of_reply rs) ≡ (done ++ with_newline (reply_line (view_of_reply r))) ++ replies_printed (map view_of_reply (drop (i + 1) rs))
one-more rs i r done lt is parts =
    cc (parts, drop_more rs i r lt, append_assoc done (with_newline (reply_line (view_of_reply r))) (replies_printed (map view_of_reply (drop (i + 1) rs))))

all-written : {N : ℕ} (rs : List (Reply N)) (i : ℕ) (old new : Option (List ℕ)) (waits : List ℕ) → length rs ≤ i
    → IsPartWritten rs i old new waits → PassesThroughBuffer old new [] waits (replies_printed (map view_of_reply rs))
all-written rs i old new waits le (done, parts, passed) = rw (parts, drop_all i rs le, append-nil) passed

on_ok_always : {T E P : Type 0} (r : Result T E) → P → OnOk r P
on_ok_always (Ok x) p = p
on_ok_always (Err e) p = tt

pub loop-reply-init : goal.loop-reply-init
loop-reply-init g c = ([], refl, record { done = []; whole = sym c.new-waiting.ensures; appended = Appends-nil _ })

pub loop-reply-preserved : goal.loop-reply-preserved
loop-reply-preserved g c =
    let (done, parts, passed) = c.loop-reply.invariant in (
      done ++ with_newline (reply_line (view_of_reply c.reply-item.result)),
      one-more _ _ _ done c.loop-reply-test.true c.reply-item.is parts,
      passed-then _ _ _ _ _ _ _ passed _ c.in_ok-buffer_reply.ensures.whole,
    )

pub returns-in_err-buffer_reply-clause-part : goal.returns-in_err-buffer_reply-clause-part
returns-in_err-buffer_reply-clause-part g c =
    let (done, parts, passed) = c.loop-reply.invariant in
    front-more _ _ (replies_printed (map view_of_reply c.args.replies.now)) _
    (rw (one-more _ _ _ done c.loop-reply-test.true c.reply-item.is parts)
    (front-more _ _ _ _ (passed-front _ _ [] _ _ _ _ passed c.in_err-buffer_reply.ensures.part)))

pub returns-in_err-buffer_prefix_and_text-clause-part : goal.returns-in_err-buffer_prefix_and_text-clause-part
returns-in_err-buffer_prefix_and_text-clause-part g c =
    passed-front _ _ [] _ _ _ _ (all-written _ _ _ _ _ c.loop-reply-test.false c.loop-reply.invariant)
    (rw c.as_str.ensures.bytes at c.in_err-buffer_prefix_and_text.ensures.part)

pub returns-in_err-send-clause-part : goal.returns-in_err-send-clause-part
returns-in_err-send-clause-part g c =
    let lines = all-written _ _ _ _ _ c.loop-reply-test.false c.loop-reply.invariant in
    let last = rw c.as_str.ensures.bytes at c.in_ok-buffer_prefix_and_text.ensures.whole in
    sent-front _ _ [] _ _ _ (passed-then _ _ [] _ _ _ _ lines _ last) c.in_err-send.ensures.part

pub returns-clause-whole : goal.returns-clause-whole
returns-clause-whole g c =
    let lines = all-written _ _ _ _ _ c.loop-reply-test.false c.loop-reply.invariant in
    let last = rw c.as_str.ensures.bytes at c.in_ok-buffer_prefix_and_text.ensures.whole in
    on_ok_always c.flush.result (Appends-kept _ _ _ _
    (sent-all _ _ [] _ _ _ (passed-then _ _ [] _ _ _ _ lines _ last) c.in_ok-send.ensures.whole) c.flush.ensures.bytes)

pub returns-clause-part : goal.returns-clause-part
returns-clause-part g c =
    let lines = all-written _ _ _ _ _ c.loop-reply-test.false c.loop-reply.invariant in
    let last = rw c.as_str.ensures.bytes at c.in_ok-buffer_prefix_and_text.ensures.whole in
    front-all _ _ _ (Appends-kept _ _ _ _
    (sent-all _ _ [] _ _ _ (passed-then _ _ [] _ _ _ _ lines _ last) c.in_ok-send.ensures.whole) c.flush.ensures.bytes)
