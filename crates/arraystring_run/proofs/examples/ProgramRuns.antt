-- Examples of what a program does that is given a word. `codes "len"` is the list of the bytes of `"len"`, and 0x0A is the line feed.
-- For the claims that the input, the output or the errors are as before `Unit` is a true one, and `⊥` a false one.
use Rattle.std.proofs.Common.{◌≡◌, ap, sym, append-nil, ◌⊎◌, ℕ, inl, inr, List, [], ◌∷◌, ◌++◌, map, Some, None, Ok, Err, refl, arith, Bor, codes}
use Rattle.std.specs.Fmt.{digits}
use Rattle.arraystring_run.specs.CommandLines.{IsLineOf}
use Rattle.arraystring_run.specs.Playing.{IsPlayed, IsPlayedPartlyWritten, IsOutcome}
use Rattle.arraystring_run.specs.ProgramRuns.{capacity_named, capacity_in_bytes, status_of, usage_line, fault_line, report_of, IsOutcomeIfNamed, exit_status, stderr_text, ProgramRun, IsServed}
use Rattle.arraystring_run.specs.LinesOfScripts.{IsBadAt}
use Rattle.arraystring_run.specs.Writing.{AppendsPrefix}
use Rattle.arraystring_run.specs.declared.commands.Command.{Command}
use Rattle.arraystring_run.specs.declared.commands.Command.TheVariants as command
use Rattle.arraystring_run.specs.declared.player.PlayFault.TheVariants.{BadLine, Memory, Read, Write}
use Rattle.arraystring_run.specs.declared.program.Capacity.TheVariants.{Small, Cache, Max}

-- a `&str` with these bytes
abbrev str : List ℕ → Bor (List ℕ)
str bs = record { ref_ptr = (0, 0); now = bs }

capacity_named-three_words : map (λ w. capacity_named (Some (str w))) (codes "small" ∷ codes "cache" ∷ codes "max" ∷ [])
    ≡ Some 23 ∷ Some 63 ∷ Some 255 ∷ []
capacity_named-three_words = refl

capacity_named-other_words : map (λ w. capacity_named (Some (str w)))
    (codes "big" ∷ codes "Small" ∷ codes "smal" ∷ codes "small " ∷ [] ∷ [])
    ≡ None ∷ None ∷ None ∷ None ∷ None ∷ []
capacity_named-other_words = refl

capacity_named-no_word : capacity_named None ≡ None
capacity_named-no_word = refl

capacity_in_bytes-each : map capacity_in_bytes (Small ∷ Cache ∷ Max ∷ []) ≡ 23 ∷ 63 ∷ 255 ∷ []
capacity_in_bytes-each = refl

status_of-each : map (status_of {A = ℕ}) (Ok 7 ∷ Err (BadLine 1) ∷ Err Memory ∷ Err Read ∷ Err Write ∷ []) ≡ 0 ∷ 2 ∷ 3 ∷ 4 ∷ 4 ∷ []
status_of-each = refl

usage_line-with_its_line_feed : usage_line ≡ codes "usage: arraystring_run small or cache or max" ++ 0x0A ∷ []
usage_line-with_its_line_feed = refl

fault_line-each : map fault_line (BadLine 1 ∷ BadLine 1200 ∷ Memory ∷ Read ∷ Write ∷ [])
    ≡ (codes "bad line 1" ++ 0x0A ∷ []) ∷ (codes "bad line 1200" ++ 0x0A ∷ []) ∷ (codes "out of memory" ++ 0x0A ∷ [])
    ∷ (codes "read failed" ++ 0x0A ∷ []) ∷ (codes "write failed" ++ 0x0A ∷ []) ∷ []
unfolding digits
fault_line-each = refl

report_of-played : report_of {A = ℕ} (Ok 7) ≡ []
report_of-played = refl

report_of-fault : report_of {A = ℕ} (Err Memory) ≡ codes "out of memory" ++ 0x0A ∷ []
report_of-fault = refl

exit_status-no_capacity : exit_status None ≡ 2
exit_status-no_capacity = refl

exit_status-a_capacity : exit_status (Some (Err Memory)) ≡ 3
exit_status-a_capacity = refl

stderr_text-no_capacity : stderr_text None ≡ codes "usage: arraystring_run small or cache or max" ++ 0x0A ∷ []
stderr_text-no_capacity = refl

stderr_text-a_capacity : stderr_text (Some (Err Memory)) ≡ codes "out of memory" ++ 0x0A ∷ []
stderr_text-a_capacity = refl

-- what the script `capacity` prints at the capacity 23
abbrev output : List ℕ
output = codes "number 23" ++ 0x0A ∷ codes "final " ++ 0x0A ∷ []

outcome-of_a_script : IsOutcome 23 (Some (codes "capacity")) (Some []) (Some output) ⊥ (Ok tt)
unfolding digits
outcome-of_a_script = record {
  whole = (command.Capacity ∷ [], (([], refl, refl), tt), refl);
  bad_line = tt;
  unwritten = tt;
  part = tt;
}

IsOutcomeIfNamed-no_capacity : IsOutcomeIfNamed None (Some []) (Some []) (Some []) (Unit {0}) (Unit {0}) None
IsOutcomeIfNamed-no_capacity = record { none_named = λ e. (refl, tt, tt); outcome = tt }

IsOutcomeIfNamed-a_capacity : IsOutcomeIfNamed (Some 23) (Some (codes "capacity")) (Some []) (Some output) ⊥ ⊥ (Some (Ok tt))
IsOutcomeIfNamed-a_capacity = record { none_named = λ e. absurd (cc); outcome = outcome-of_a_script }

IsOutcomeIfNamed-played_at_no_capacity : IsOutcomeIfNamed None (Some []) (Some []) (Some []) (Unit {0}) (Unit {0}) (Some (Ok tt)) → ⊥
IsOutcomeIfNamed-played_at_no_capacity o = let none : Some (Ok tt) ≡ None = (o.none_named refl).0 in cc

IsOutcomeIfNamed-read_at_no_capacity : IsOutcomeIfNamed None (Some []) (Some []) (Some []) ⊥ (Unit {0}) None → ⊥
IsOutcomeIfNamed-read_at_no_capacity o = (o.none_named refl).1

IsOutcomeIfNamed-written_at_no_capacity : IsOutcomeIfNamed None (Some []) (Some []) (Some []) (Unit {0}) ⊥ None → ⊥
IsOutcomeIfNamed-written_at_no_capacity o = (o.none_named refl).2

IsOutcomeIfNamed-not_played : IsOutcomeIfNamed (Some 23) (Some []) (Some []) (Some []) (Unit {0}) (Unit {0}) None → ⊥
IsOutcomeIfNamed-not_played o = o.outcome

-- What was served. An empty line is no command.
no_command : (c : Command) → IsLineOf [] c → ⊥
no_command command.Pop (rest, e, spelled) = cc
no_command _ (rest, e, spelled) = cc

bad_line_1 : IsBadAt ([] ∷ []) 1
bad_line_1 = record { front = []; commands = []; line = []; rest = []; whole = refl; number = refl; before = tt; bad = no_command }

all_of : (bs : List ℕ) → AppendsPrefix (Some []) (Some bs) bs
all_of bs = record { done = bs; later = []; whole = sym (append-nil bs); appended = refl }

-- what was done for the word `small`, with no input, no byte to the output or the errors, and status 0: the other services are
-- written as what is another in them. Output and errors were empty before.
abbrev nothing : ProgramRun
nothing = record {
  word = Some (str (codes "small"));
  input = Some [];
  output_before = Some [];
  output_after = Some [];
  errors_before = Some [];
  errors_after = Some [];
  SameInput = ⊥;
  SameOutput = Unit {0};
  SameErrors = ⊥;
  status = 0;
}

-- the script `capacity` was played
abbrev played_capacity : ProgramRun
played_capacity = record nothing {
  input = Some (codes "capacity");
  output_after = Some output;
  SameOutput = ⊥;
  SameErrors = Unit {0};
}

-- a word that names no capacity
abbrev of_big : ProgramRun
of_big = record nothing {
  word = Some (str (codes "big"));
  errors_after = Some usage_line;
  SameInput = Unit {0};
  status = 2;
}

-- an empty line, and a part of what is said of it
abbrev of_bad_line : ProgramRun
of_bad_line = record nothing { input = Some (0x0A ∷ []); errors_after = Some (codes "bad line "); status = 2 }

abbrev of_no_memory : ProgramRun
of_no_memory = record nothing { errors_after = Some (codes "out of memory" ++ 0x0A ∷ []); status = 3 }

abbrev of_failed_read : ProgramRun
of_failed_read = record nothing { errors_after = Some (codes "read failed" ++ 0x0A ∷ []); status = 4 }

-- the write failed after a part of what `capacity` prints
abbrev of_failed_write : ProgramRun
of_failed_write = record nothing {
  input = Some (codes "capacity");
  output_after = Some (codes "number 23");
  errors_after = Some (codes "write failed" ++ 0x0A ∷ []);
  SameOutput = ⊥;
  status = 4;
}

ProgramRun-the_output_is_not_the_errors : record nothing { output_after = Some (codes "a") } ≡ record nothing { errors_after = Some (codes "a") } → ⊥
ProgramRun-the_output_is_not_the_errors e =
    let same : Some (codes "a") ≡ Some [] = ap (λ (s : ProgramRun). s.output_after) e in grind arith

IsServed-played : IsServed played_capacity
unfolding digits
IsServed-played = record {
  other_word = λ e. absurd (cc);
  played = λ e. (command.Capacity ∷ [], (([], refl, refl), tt), refl);
  bad_line = λ e. absurd (omega arith);
  no_memory = λ e. absurd (omega arith);
  failed = λ e. absurd (omega arith);
  quiet = λ e. tt;
  unwritten = λ some failed. absurd (some refl);
  known = omega arith;
}

IsServed-other_word : IsServed of_big
IsServed-other_word = record {
  other_word = λ e. (refl, tt, all_of usage_line);
  played = tt;
  bad_line = tt;
  no_memory = λ e. absurd (omega arith);
  failed = tt;
  quiet = λ e. absurd (omega arith);
  unwritten = λ some failed. tt;
  known = omega arith;
}

-- the errors may fail, too, after a part of the line
IsServed-bad_line : IsServed of_bad_line
unfolding digits
IsServed-bad_line = record {
  other_word = λ e. absurd (cc);
  played = λ e. absurd (omega arith);
  bad_line = λ e.
      (1, bad_line_1, record { done = codes "bad line "; later = codes "1" ++ 0x0A ∷ []; whole = refl; appended = refl });
  no_memory = λ e. absurd (omega arith);
  failed = λ e. absurd (omega arith);
  quiet = λ e. absurd (omega arith);
  unwritten = λ some failed. tt;
  known = omega arith;
}

IsServed-no_memory : IsServed of_no_memory
IsServed-no_memory = record {
  other_word = λ e. absurd (cc);
  played = λ e. absurd (omega arith);
  bad_line = λ e. absurd (omega arith);
  no_memory = λ e. all_of (fault_line Memory);
  failed = λ e. absurd (omega arith);
  quiet = λ e. absurd (omega arith);
  unwritten = λ some failed. tt;
  known = omega arith;
}

IsServed-read_failed : IsServed of_failed_read
IsServed-read_failed = record {
  other_word = λ e. absurd (cc);
  played = λ e. absurd (omega arith);
  bad_line = λ e. absurd (omega arith);
  no_memory = λ e. absurd (omega arith);
  failed = λ e. inl (tt, all_of (fault_line Read));
  quiet = λ e. absurd (omega arith);
  unwritten = λ some failed. tt;
  known = omega arith;
}

IsServed-write_failed : IsServed of_failed_write
unfolding digits
IsServed-write_failed = record {
  other_word = λ e. absurd (cc);
  played = λ e. absurd (omega arith);
  bad_line = λ e. absurd (omega arith);
  no_memory = λ e. absurd (omega arith);
  failed = λ e.
      let part : AppendsPrefix (Some []) (Some (codes "number 23")) output =
      record { done = codes "number 23"; later = 0x0A ∷ codes "final " ++ 0x0A ∷ []; whole = refl; appended = refl } in
      inr ((command.Capacity ∷ [], (([], refl, refl), tt), part), all_of (fault_line Write));
  quiet = λ e. absurd (omega arith);
  unwritten = λ some failed. absurd (failed refl);
  known = omega arith;
}

-- Each of these differs in one thing from one of those.

IsServed-another_status_for_another_word : IsServed (record of_big { status = 3 }) → ⊥
IsServed-another_status_for_another_word is = omega (arith, (is.other_word refl).0)

IsServed-read_for_another_word : IsServed (record of_big { SameInput = ⊥ }) → ⊥
IsServed-read_for_another_word is = (is.other_word refl).1

IsServed-written_for_another_word : IsServed (record of_big { SameOutput = ⊥ }) → ⊥
IsServed-written_for_another_word is = is.unwritten (omega arith) (omega arith)

IsServed-no_usage_line : IsServed (record of_big { errors_after = Some (codes "bad") }) → ⊥
IsServed-no_usage_line is = let said : AppendsPrefix (Some []) (Some (codes "bad")) usage_line = (is.other_word refl).2 in grind arith

IsServed-output_lacks_a_byte : IsServed (record played_capacity { input = Some []; output_after = Some (codes "final ") }) → ⊥
IsServed-output_lacks_a_byte is = go (is.played refl)
  where
    go : IsPlayed [] 23 (Some []) (Some (codes "final ")) → ⊥
    go ([], are, e) = grind arith
    go (c ∷ cs, are, e) = are

IsServed-no_line_is_bad : IsServed (record of_bad_line { input = Some [] }) → ⊥
IsServed-no_line_is_bad is = go (is.bad_line refl).1
  where
    go : {k : ℕ} → IsBadAt [] k → ⊥
    go bad = none bad.front bad.whole
      where
        none : (front : List (List ℕ)) → [] ≡ front ++ bad.line ∷ bad.rest → ⊥
        none [] e = cc
        none (l ∷ front) e = cc

IsServed-says_another_line_than_the_bad_one : IsServed (record of_bad_line { errors_after = Some (codes "out") }) → ⊥
IsServed-says_another_line_than_the_bad_one is =
    let (k, bad, said) = is.bad_line refl in
    let said : AppendsPrefix (Some []) (Some (codes "out")) (fault_line (BadLine k)) = said in grind arith

IsServed-written_though_a_line_is_bad : IsServed (record of_bad_line { SameOutput = ⊥ }) → ⊥
IsServed-written_though_a_line_is_bad is = is.unwritten (omega arith) (omega arith)

IsServed-says_another_fault_than_memory : IsServed (record of_no_memory { errors_after = Some (codes "read failed") }) → ⊥
IsServed-says_another_fault_than_memory is =
    let said : AppendsPrefix (Some []) (Some (codes "read failed")) (fault_line Memory) = is.no_memory refl in grind arith

IsServed-written_without_memory : IsServed (record of_no_memory { SameOutput = ⊥ }) → ⊥
IsServed-written_without_memory is = is.unwritten (omega arith) (omega arith)

-- what status 4 says of the service with no input, by what was written to the output and to the errors
abbrev Failed : Type 0 → List ℕ → List ℕ → Type 0
Failed Same out said = (Same × AppendsPrefix (Some []) (Some said) (fault_line Read))
    ⊎ (IsPlayedPartlyWritten [] 23 (Some []) (Some out) × AppendsPrefix (Some []) (Some said) (fault_line Write))

IsServed-says_another_fault_than_a_failed_read : IsServed (record of_failed_read { errors_after = Some (codes "out of memory") }) → ⊥
IsServed-says_another_fault_than_a_failed_read is = go (is.failed refl)
  where
    go : Failed (Unit {0}) [] (codes "out of memory") → ⊥
    go (inl (same, said)) = grind arith
    go (inr (part, said)) = grind arith

IsServed-wrote_and_says_that_a_read_failed : IsServed (record of_failed_read { output_after = Some (codes "fin"); SameOutput = ⊥ }) → ⊥
IsServed-wrote_and_says_that_a_read_failed is = go (is.failed refl)
  where
    go : Failed ⊥ (codes "fin") (codes "read failed" ++ 0x0A ∷ []) → ⊥
    go (inl (same, said)) = same
    go (inr (part, said)) = grind arith

-- the run of no command prints `final `, of which these bytes are no part
IsServed-wrote_what_the_script_does_not_print : IsServed (record of_failed_write { input = Some []; output_after = Some (codes "number") }) → ⊥
IsServed-wrote_what_the_script_does_not_print is = go (is.failed refl)
  where
    no_part : IsPlayedPartlyWritten [] 23 (Some []) (Some (codes "number")) → ⊥
    no_part ([], are, appends) = grind arith
    no_part (c ∷ cs, are, appends) = are

    go : Failed ⊥ (codes "number") (codes "write failed" ++ 0x0A ∷ []) → ⊥
    go (inl (same, said)) = same
    go (inr (part, said)) = no_part part

IsServed-errors_were_written_though_all_was_played : IsServed (record played_capacity { SameErrors = ⊥ }) → ⊥
IsServed-errors_were_written_though_all_was_played is = is.quiet refl

IsServed-status_1 : IsServed (record nothing { status = 1 }) → ⊥
IsServed-status_1 is = is.known.1 refl

IsServed-status_5 : IsServed (record nothing { status = 5 }) → ⊥
IsServed-status_5 is = omega (arith, is.known.0)
