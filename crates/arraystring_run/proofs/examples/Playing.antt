-- Examples of scripts that were played, to their end or not. `codes "len"` is the list of the bytes of `"len"`, and 0x0A is the line
-- feed.
use Rattle.std.proofs.Common.{◌≡◌, ℕ, ◌+◌, List, [], ◌∷◌, ◌++◌, length, Some, None, Ok, Err, refl, arith, codes}
use Rattle.std.specs.Fmt.{digits}
use Rattle.arraystring_run.specs.CommandLines.{IsLineOf}
use Rattle.arraystring_run.specs.Playing.{IfBadLine, IsPlayed, IsPlayedPartlyWritten, IsOutcome}
use Rattle.arraystring_run.specs.Printing.{reply_line, replies_printed}
use Rattle.arraystring_run.specs.Effects.{ReplyView, run_result}
use Rattle.arraystring_run.specs.LinesOfScripts.{IsBadAt}
use Rattle.arraystring_run.specs.declared.commands.Command.{Command}
use Rattle.arraystring_run.specs.declared.commands.Command.TheVariants as command
use Rattle.arraystring_run.specs.declared.player.PlayFault.TheVariants.{BadLine, Memory, Read, Write}

IfBadLine-its_number : IfBadLine (BadLine 2) (λ k. k ≡ 2)
IfBadLine-its_number = refl

IfBadLine-another_number : IfBadLine (BadLine 3) (λ k. k ≡ 2) → ⊥
IfBadLine-another_number e = omega arith

IfBadLine-no_claim_on_others : IfBadLine Memory (λ k. ⊥) × IfBadLine Read (λ k. ⊥) × IfBadLine Write (λ k. ⊥)
IfBadLine-no_claim_on_others = (tt, tt, tt)

-- what the script `capacity` prints at the capacity 5
abbrev output : List ℕ
output = codes "number 5" ++ 0x0A ∷ codes "final " ++ 0x0A ∷ []

IsPlayed-appended : IsPlayed (codes "capacity") 5 (Some (codes "x")) (Some (0x78 ∷ output))
unfolding digits
IsPlayed-appended = (command.Capacity ∷ [], (([], refl, refl), tt), refl)

IsPlayed-to_unknown_bytes : IsPlayed [] 5 None None
IsPlayed-to_unknown_bytes = ([], tt, tt)

-- an empty line is no command
no_command : (c : Command) → IsLineOf [] c → ⊥
no_command command.Pop (rest, e, spelled) = cc
no_command _ (rest, e, spelled) = cc

IsPlayed-bad_line : IsPlayed (0x0A ∷ []) 5 None None → ⊥
IsPlayed-bad_line ([], are, appended) = are
IsPlayed-bad_line (c ∷ cs, are, appended) = no_command c are.0

-- what is printed is never nothing
some_printed : (rs : List ReplyView) (ys : List ℕ) (b : ℕ) → [] ≡ replies_printed rs ++ b ∷ ys → ⊥
some_printed [] ys b e = cc
some_printed (r ∷ rs) ys b e = some_first (reply_line r) (replies_printed rs) e
  where
    some_first : (xs zs : List ℕ) → [] ≡ ((xs ++ 0x0A ∷ []) ++ zs) ++ b ∷ ys → ⊥
    some_first [] zs e = cc
    some_first (x ∷ xs) zs e = cc

IsPlayed-nothing_was_written : IsPlayed (codes "capacity") 5 (Some []) (Some []) → ⊥
IsPlayed-nothing_was_written (cs, are, e) = some_printed (run_result cs [] 5).replies _ _ e

IsPlayedPartlyWritten-a_part : IsPlayedPartlyWritten (codes "capacity") 5 (Some (codes "x")) (Some (codes "xnumber 5"))
unfolding digits
IsPlayedPartlyWritten-a_part = (
  command.Capacity ∷ [],
  (([], refl, refl), tt),
  record {
    done = codes "number 5";
    later = 0x0A ∷ codes "final " ++ 0x0A ∷ [];
    whole = refl;
    appended = refl;
  },
)

IsPlayedPartlyWritten-bad_line : IsPlayedPartlyWritten (0x0A ∷ []) 5 None None → ⊥
IsPlayedPartlyWritten-bad_line ([], are, appended) = are
IsPlayedPartlyWritten-bad_line (c ∷ cs, are, appended) = no_command c are.0

IsPlayedPartlyWritten-what_was_there_is_lost : IsPlayedPartlyWritten (codes "capacity") 5 (Some (codes "x")) (Some []) → ⊥
IsPlayedPartlyWritten-what_was_there_is_lost (cs, are, appends) = cc

-- Outcomes. `Unit` as `SameOutput` says that the output is as before, `⊥` that it is not.

IsOutcome-played : IsOutcome 5 (Some (codes "capacity")) (Some []) (Some output) ⊥ (Ok tt)
unfolding digits
IsOutcome-played = record {
  whole = (command.Capacity ∷ [], (([], refl, refl), tt), refl);
  bad_line = tt;
  unwritten = tt;
  part = tt;
}

IsOutcome-bad_line : IsOutcome 5 (Some (0x0A ∷ [])) (Some []) (Some []) (Unit {0}) (Err (BadLine 1))
IsOutcome-bad_line = record {
  whole = tt;
  bad_line =
      record { front = []; commands = []; line = []; rest = []; whole = refl; number = refl; before = tt; bad = no_command };
  unwritten = λ other. tt;
  part = λ e. absurd (cc);
}

IsOutcome-no_memory : IsOutcome 5 (Some []) (Some []) (Some []) (Unit {0}) (Err Memory)
IsOutcome-no_memory = record { whole = tt; bad_line = tt; unwritten = λ other. tt; part = λ e. absurd (cc) }

IsOutcome-write_failed : IsOutcome 5 (Some []) (Some []) (Some (codes "fin")) ⊥ (Err Write)
IsOutcome-write_failed = record {
  whole = tt;
  bad_line = tt;
  unwritten = λ other. absurd (other refl);
  part = λ e. ([], tt, record { done = codes "fin"; later = codes "al " ++ 0x0A ∷ []; whole = refl; appended = refl });
}

IsOutcome-played_and_nothing_written : IsOutcome 5 (Some (codes "capacity")) (Some []) (Some []) (Unit {0}) (Ok tt) → ⊥
IsOutcome-played_and_nothing_written o = IsPlayed-nothing_was_written o.whole

IsOutcome-another_bad_line : IsOutcome 5 (Some (0x0A ∷ [])) (Some []) (Some []) (Unit {0}) (Err (BadLine 0)) → ⊥
IsOutcome-another_bad_line o =
    let bad : IsBadAt ([] ∷ []) 0 = o.bad_line in let number : 0 ≡ length bad.front + 1 = bad.number in omega arith

IsOutcome-written_where_a_line_is_bad : IsOutcome 5 (Some (0x0A ∷ [])) (Some []) (Some []) ⊥ (Err (BadLine 1)) → ⊥
IsOutcome-written_where_a_line_is_bad o = o.unwritten (λ e. cc)

IsOutcome-written_without_memory : IsOutcome 5 (Some []) (Some []) (Some []) ⊥ (Err Memory) → ⊥
IsOutcome-written_without_memory o = o.unwritten (λ e. cc)

IsOutcome-written_where_a_read_failed : IsOutcome 5 (Some []) (Some []) (Some []) ⊥ (Err Read) → ⊥
IsOutcome-written_where_a_read_failed o = o.unwritten (λ e. cc)

IsOutcome-lost_where_a_write_failed : IsOutcome 5 (Some (codes "capacity")) (Some (codes "x")) (Some []) ⊥ (Err Write) → ⊥
IsOutcome-lost_where_a_write_failed o = IsPlayedPartlyWritten-what_was_there_is_lost (o.part refl)
