use Rattle.std.proofs.Common.{◌≡◌, ℕ, ◌+◌, ◌-◌, ◌<◌, ◌≤◌, List, ◌++◌, drop, length, slice_index, IfSome, IsUtf8}
use Rattle.arraystring_run.specs.LinesOfScripts.{lines, AreLinesOfCommands}
use Rattle.arraystring_run.specs.declared.commands.Command.{Command}
use Rattle.arraystring_run.proofs.script.parse_script.Given as goal

-- the first lines are read, and `left` are not
pub record IsPartRead (all : List (List ℕ)) (done : List Command) (left : List (List ℕ)) (number : ℕ) : Type 0 where
  pub front : List (List ℕ)
  pub whole : all ≡ front ++ left
  pub count : number ≡ length front
  pub read : AreLinesOfCommands front done

abbrev pub invariant-loop-start : goal.invariant-loop-start
invariant-loop-start l = record {
  short : l.number ≤ l.start;
  within : l.start ≤ length l.script + 1;
  read : IsPartRead (lines l.script) l.commands.items (lines (drop l.start l.script)) l.number;
  text : IfSome l.text (λ t. (t.now ≡ l.script) × IsUtf8 l.script);
  boundary : IsUtf8 l.script → l.start < length l.script → 128 ≤ slice_index l.script l.start → 192 ≤ slice_index l.script l.start;
}

abbrev pub decreases-loop-start : goal.decreases-loop-start
decreases-loop-start l = length l.script - l.start
