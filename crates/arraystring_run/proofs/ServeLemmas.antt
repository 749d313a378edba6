-- What is served: a script that was played, or not, at a capacity or for a word that names none.
use Rattle.std.proofs.Common.{◌≡◌, ◌≢◌, ℕ, ◌≤◌, ◌⊎◌, List, refl, sym, ◌∙◌, arith, Option, Some, None, Result, Ok, Err, IfErr, OnOk, inl, inr}
use Rattle.std.specs.Borrow.{Bor}
use Rattle.arraystring_run.specs.Writing.{AppendsPrefix}
use Rattle.arraystring_run.specs.Playing.{IfBadLine}
use Rattle.arraystring_run.specs.ProgramRuns.{IsServed, IsOutcomeIfNamed, capacity_named, status_of, exit_status, report_of, stderr_text, fault_line}
use Rattle.arraystring_run.specs.declared.player.PlayFault.{PlayFault}
use Rattle.arraystring_run.specs.declared.player.PlayFault.TheVariants.{BadLine, Memory, Read, Write}

known : (played : Result (Unit {0}) PlayFault) → (status_of played ≤ 4) × (status_of played ≢ 1)
known (Err Write) = omega arith
known other = omega arith

-- what each status says of a script and of its fault
at-0 : {Whole : Type 0} (played : Result (Unit {0}) PlayFault) → OnOk played Whole → status_of played ≡ 0 → Whole
at-0 (Ok _) whole e = whole
at-0 (Err Write) whole e = absurd (omega arith)
at-0 other whole e = absurd (omega arith)

at-2 : (Line : List ℕ → Type 0) {Bad : ℕ → Type 0} (played : Result (Unit {0}) PlayFault)
    → IfErr played (λ e. IfBadLine e Bad) → Line (report_of played)
    → status_of played ≡ 2 → (k : ℕ) × Bad k × Line (fault_line (BadLine k))
at-2 Line (Err (BadLine k)) bad line e = (k, bad, line)
at-2 Line other bad line e = absurd (omega arith)

at-3 : (Line : List ℕ → Type 0) (played : Result (Unit {0}) PlayFault)
    → Line (report_of played) → status_of played ≡ 3 → Line (fault_line Memory)
at-3 Line (Err Memory) line e = line
at-3 Line other line e = absurd (omega arith)

at-4 : (Line : List ℕ → Type 0) {SameOutput Part : Type 0} (played : Result (Unit {0}) PlayFault)
    → IfErr played (λ e. e ≢ Write → SameOutput) → IfErr played (λ e. e ≡ Write → Part)
    → Line (report_of played) → status_of played ≡ 4 → (SameOutput × Line (fault_line Read)) ⊎ (Part × Line (fault_line Write))
at-4 Line (Err Read) same part line e = inl (same (λ f. cc), line)
at-4 Line (Err Write) same part line e = inr (part refl, line)
at-4 Line other same part line e = absurd (omega arith)

unwritten : {SameOutput : Type 0} (played : Result (Unit {0}) PlayFault) → IfErr played (λ e. e ≢ Write → SameOutput)
    → status_of played ≢ 0 → status_of played ≢ 4 → SameOutput
unwritten (Ok _) same ne _ = absurd (ne refl)
unwritten (Err Write) same _ ne = absurd (ne refl)
unwritten (Err e) same _ _ = same (λ f. cc)

-- a script that was to be played at a capacity, if the word names one
pub served : {word : Option (Bor (List ℕ))} {given old new errors_old errors_new : Option (List ℕ)}
    {SameInput SameOutput SameErrors : Type 0} {status : ℕ}
    (named : Option ℕ) (played : Option (Result (Unit {0}) PlayFault)) → capacity_named word ≡ named
    → IsOutcomeIfNamed named given old new SameInput SameOutput played
    → status ≡ exit_status played → AppendsPrefix errors_old errors_new (stderr_text played) → (status ≡ 0 → SameErrors)
    → IsServed (record {
      word = word;
      input = given;
      output_before = old;
      output_after = new;
      errors_before = errors_old;
      errors_after = errors_new;
      SameInput = SameInput;
      SameOutput = SameOutput;
      SameErrors = SameErrors;
      status = status;
    })
served None None named at is line quiet = let (_, input, output) = at.none_named refl in rw is (record {
  other_word = λ _. (refl, input, line);
  played = rw named tt;
  bad_line = rw named tt;
  no_memory = λ e. absurd (omega arith);
  failed = rw named tt;
  quiet = λ e. absurd (omega arith);
  unwritten = λ _ _. output;
  known = (omega arith, omega arith);
})
served None (Some played) named at is line quiet = let (none, _, _) = at.none_named refl in absurd (cc)
served (Some n) None named at is line quiet = absurd at.outcome
served (Some n) (Some played) named at is line quiet = let outcome = at.outcome in rw is (record {
  other_word = λ none. let clash : Some n ≡ None = sym named ∙ none in absurd (cc);
  played = rw named (at-0 played outcome.whole);
  bad_line = rw named (at-2 (AppendsPrefix _ _) played outcome.bad_line line);
  no_memory = at-3 (AppendsPrefix _ _) played line;
  failed = rw named (at-4 (AppendsPrefix _ _) played outcome.unwritten outcome.part line);
  quiet = rw is at quiet;
  unwritten = unwritten played outcome.unwritten;
  known = known played;
})
