use Rattle.std.proofs.Common.{◌≡◌, ℕ, List, [], ◌++◌, map, drop, Option}
use Rattle.arraystring_run.specs.Effects.{view_of_reply}
use Rattle.arraystring_run.specs.Writing.{PassesThroughBuffer}
use Rattle.arraystring_run.specs.Printing.{replies_printed}
use Rattle.arraystring_run.specs.declared.commands.Reply.{Reply}
use Rattle.arraystring_run.proofs.printing.write_replies_and_text.Given as goal

-- the lines of the replies before i were written, or wait
abbrev pub IsPartWritten : {N : ℕ} → List (Reply N) → ℕ → Option (List ℕ) → Option (List ℕ) → List ℕ → Type 0
IsPartWritten rs i old new waits =
    (done : List ℕ) × (replies_printed (map view_of_reply rs) ≡ done ++ replies_printed (map view_of_reply (drop i rs))) × PassesThroughBuffer old new [] waits done

abbrev pub invariant-loop-reply : goal.invariant-loop-reply
invariant-loop-reply g l =
    IsPartWritten l.replies l.reply-index (g.O.Write.contents l.initial.output) (g.O.Write.contents l.output) l.waiting
