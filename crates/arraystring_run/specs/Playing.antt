-- These definitions say what `play` promises of its result and its output, for a script that is played to its end and for each fault.
use Rattle.std.specs.Prelude.{◌≡◌, ◌≢◌, ℕ, ⊤, List, Option, IfSome, Result, IfErr, OnOk}
use Rattle.std.specs.Io.KnownBytes.{Appends}
use Rattle.arraystring_run.specs.Printing.{run_printed}
use Rattle.arraystring_run.specs.LinesOfScripts.{lines, AreLinesOfCommands, IsBadAt}
use Rattle.arraystring_run.specs.Writing.{AppendsPrefix}
use Rattle.arraystring_run.specs.declared.commands.Command.{Command}
use Rattle.arraystring_run.specs.declared.player.PlayFault.{PlayFault}
use Rattle.arraystring_run.specs.declared.player.PlayFault.TheVariants.{BadLine, Write}

-- if the fault is `BadLine(k)`, `P` holds of k; of any other fault nothing is said
abbrev pub IfBadLine : PlayFault → (ℕ → Type 0) → Type 0
IfBadLine (BadLine k) P = P k
IfBadLine _ P = ⊤

-- the lines of the input are those of some commands, and the printed lines of their run were appended to the output of a writer. `old`
-- and `new` are its bytes before and after, if its contract tells them
abbrev pub IsPlayed : List ℕ → ℕ → Option (List ℕ) → Option (List ℕ) → Type 0
IsPlayed input n old new = (cs : List Command) × AreLinesOfCommands (lines input) cs × Appends old new (run_printed cs n)

-- as `IsPlayed`, but only a prefix of the printed lines was appended, which may be none or all of their bytes
abbrev pub IsPlayedPartlyWritten : List ℕ → ℕ → Option (List ℕ) → Option (List ℕ) → Type 0
IsPlayedPartlyWritten input n old new = (cs : List Command) × AreLinesOfCommands (lines input) cs × AppendsPrefix old new (run_printed cs n)

-- `played` is what `play` returned at the capacity n, and `old` and `new` are the bytes of the writer before and after. `Ok` says that the
-- script `given` was played, and `BadLine` which line is bad. After any fault but `Write` the writer is as before (`SameOutput`). After
-- `Write` a prefix of the printed lines was appended. Nothing is said of bytes that the contracts of the streams do not tell
pub record IsOutcome (n : ℕ) (given old new : Option (List ℕ)) (SameOutput : Type 0) (played : Result (Unit {0}) PlayFault)
    : Type 0 where
  pub whole : OnOk played (IfSome given (λ input. IsPlayed input n old new))
  pub bad_line : IfErr played (λ e. IfBadLine e (λ k. IfSome given (λ input. IsBadAt (lines input) k)))
  pub unwritten : IfErr played (λ e. e ≢ Write → SameOutput)
  pub part : IfErr played (λ e. e ≡ Write → IfSome given (λ input. IsPlayedPartlyWritten input n old new))
