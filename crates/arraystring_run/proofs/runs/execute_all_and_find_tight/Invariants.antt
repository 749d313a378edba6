use Rattle.std.proofs.Common.{◌≡◌, ◌≤◌, ℕ, List, ◌++◌, drop, length, map, Option, vec_len, vec_capacity}
use Rattle.std.specs.Vec.{vec_ptr}
use Rattle.arraystring.specs.Text.{cap}
use Rattle.arraystring_run.specs.Effects.{ReplyView, view_of_reply, run_result, first_tight_from, first_some}
use Rattle.arraystring_run.specs.declared.commands.Command.{Command}
use Rattle.arraystring_run.proofs.runs.execute_all_and_find_tight.Given as goal

-- the first i commands are done: `done` is what they replied, t what they left, and first their first tight one
pub record IsPartWay (cs : List Command) (t₀ : List ℕ) (n i : ℕ) (done : List ReplyView) (t : List ℕ) (first : Option ℕ) : Type 0 where
  pub replies : (run_result cs t₀ n).replies ≡ done ++ (run_result (drop i cs) t n).replies
  pub text : (run_result cs t₀ n).text ≡ (run_result (drop i cs) t n).text
  pub tight : first_tight_from 0 cs t₀ n ≡ first_some first (first_tight_from i (drop i cs) t n)

abbrev pub invariant-loop-position : goal.invariant-loop-position
invariant-loop-position g l = record {
  way : IsPartWay l.commands l.initial.text.text (cap g.row.N) l.position (map view_of_reply l.replies.items) l.text.text l.first_tight;
  one_each : vec_len l.replies ≡ l.position;
  reserved : length l.commands ≤ vec_capacity l.replies;
  in_place : vec_ptr l.replies ≡ vec_ptr l.initial.replies;
}
