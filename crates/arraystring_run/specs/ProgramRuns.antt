-- The program plays a script at the capacity that its word names. These definitions say which capacity that is, which faults the program
-- reports, and what its exit status is.
use Rattle.std.specs.Prelude.{◌≡◌, ◌≢◌, ◌≤◌, ◌⊎◌, ℕ, List, [], ◌++◌, if◌then◌else◌, Option, Some, None, IfSome, IsSomeAnd, Result, Ok, Err, codes, decimal, nat_eq}
use Rattle.std.specs.Borrow.{Bor}
use Rattle.std.specs.Cmp.Lexicographic.{pointwise}
use Rattle.arraystring_run.specs.Playing.{IsPlayed, IsPlayedPartlyWritten, IsOutcome}
use Rattle.arraystring_run.specs.LinesOfScripts.{with_newline, lines, IsBadAt}
use Rattle.arraystring_run.specs.Writing.{AppendsPrefix}
use Rattle.arraystring_run.specs.declared.player.PlayFault.{PlayFault}
use Rattle.arraystring_run.specs.declared.player.PlayFault.TheVariants.{BadLine, Memory, Read, Write}
use Rattle.arraystring_run.specs.declared.program.Capacity.{Capacity}
use Rattle.arraystring_run.specs.declared.program.Capacity.TheVariants.{Small, Cache, Max}

-- the capacity that a word names; `None` if there is no word, or if it names none
abbrev pub capacity_named : Option (Bor (List ℕ)) → Option ℕ
capacity_named None = None
capacity_named (Some word) =
    if pointwise nat_eq word.now (codes "small") then Some 23 else
    if pointwise nat_eq word.now (codes "cache") then Some 63 else
    if pointwise nat_eq word.now (codes "max") then Some 255 else None

-- the number of bytes for which a capacity has room
abbrev pub capacity_in_bytes : Capacity → ℕ
capacity_in_bytes Small = 23
capacity_in_bytes Cache = 63
capacity_in_bytes Max = 255

-- the exit status that a result of `play` gives (CALLING.md, The program)
abbrev pub status_of : {A : Type 0} → Result A PlayFault → ℕ
status_of (Ok _) = 0
status_of (Err (BadLine k)) = 2
status_of (Err Memory) = 3
status_of (Err Read) = 4
status_of (Err Write) = 4

-- the line that tells how to call the program
abbrev pub usage_line : List ℕ
usage_line = with_newline (codes "usage: arraystring_run small or cache or max")

-- the line that a program prints for a fault (CALLING.md, The program)
abbrev pub fault_line : PlayFault → List ℕ
fault_line (BadLine k) = with_newline (codes "bad line " ++ decimal k)
fault_line Memory = with_newline (codes "out of memory")
fault_line Read = with_newline (codes "read failed")
fault_line Write = with_newline (codes "write failed")

-- the text that a program writes to its standard error after this result of `play`
abbrev pub report_of : {A : Type 0} → Result A PlayFault → List ℕ
report_of (Ok _) = []
report_of (Err e) = fault_line e

-- if a capacity is named, `play` was called at this capacity, and `IsOutcome` holds of its result; if none is named, nothing was read or
-- written
pub record IsOutcomeIfNamed (named : Option ℕ) (given old new : Option (List ℕ)) (SameInput SameOutput : Type 0)
    (played : Option (Result (Unit {0}) PlayFault)) : Type 0 where
  pub none_named : named ≡ None → (played ≡ None) × SameInput × SameOutput
  pub outcome : IfSome named (λ n. IsSomeAnd played (IsOutcome n given old new SameOutput))

-- the exit status of the program. `None` says that no script was played, because there is no word, or because it names no capacity
abbrev pub exit_status : Option (Result (Unit {0}) PlayFault) → ℕ
exit_status None = 2
exit_status (Some played) = status_of played

-- the text that the program writes to its standard error. `None` says that no script was played, because there is no word, or because it
-- names no capacity
abbrev pub stderr_text : Option (Result (Unit {0}) PlayFault) → List ℕ
stderr_text None = usage_line
stderr_text (Some played) = report_of played

-- one run of the program: its word, the bytes of its input, the bytes of its output and of its standard error before and after, as far
-- as they are known, the claims that each of these three streams is as before, and the exit status
pub record ProgramRun : Type 1 where
  pub word : Option (Bor (List ℕ))
  pub input : Option (List ℕ)
  pub output_before : Option (List ℕ)
  pub output_after : Option (List ℕ)
  pub errors_before : Option (List ℕ)
  pub errors_after : Option (List ℕ)
  pub SameInput : Type 0
  pub SameOutput : Type 0
  pub SameErrors : Type 0
  pub status : ℕ

-- the promise for a run of the program, by its exit status: whether the script was played, and what was written to the output and to the
-- standard error
pub record IsServed (s : ProgramRun) : Type 0 where
  pub other_word : capacity_named s.word ≡ None
      → (s.status ≡ 2) × s.SameInput × AppendsPrefix s.errors_before s.errors_after usage_line
  pub played : IfSome (capacity_named s.word)
      (λ n. s.status ≡ 0 → IfSome s.input (λ input. IsPlayed input n s.output_before s.output_after))
  pub bad_line : IfSome (capacity_named s.word) (λ _. s.status ≡ 2 → (k : ℕ) × IfSome s.input (λ input. IsBadAt (lines input) k)
      × AppendsPrefix s.errors_before s.errors_after (fault_line (BadLine k)))
  pub no_memory : s.status ≡ 3 → AppendsPrefix s.errors_before s.errors_after (fault_line Memory)
  pub failed : IfSome (capacity_named s.word) (λ n. s.status ≡ 4
      → (s.SameOutput × AppendsPrefix s.errors_before s.errors_after (fault_line Read))
      ⊎ (IfSome s.input (λ input. IsPlayedPartlyWritten input n s.output_before s.output_after)
      × AppendsPrefix s.errors_before s.errors_after (fault_line Write)))
  pub quiet : s.status ≡ 0 → s.SameErrors
  pub unwritten : s.status ≢ 0 → s.status ≢ 4 → s.SameOutput
  -- the exit status is 0, 2, 3 or 4
  pub known : (s.status ≤ 4) × (s.status ≢ 1)
