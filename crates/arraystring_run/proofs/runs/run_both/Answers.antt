use Rattle.std.proofs.Common.{◌≡◌, ℕ, suc, ◌+◌, ◌-◌, ◌≤◌, List, [], ◌∷◌, length, map, take, refl, sym, ap, ◌∙◌, arith, Option, Some, None, Bool, true, false, if◌then◌else◌}
use Rattle.std.proofs.lemmas.Bool.{le-ltb, ltb-false}
use Rattle.arraystring.specs.Text.{cap, size, cut}
use Rattle.arraystring.proofs.CutLaws.{cut-all}
use Rattle.arraystring_run.specs.Effects.{Effect, view_of_reply, effect, is_tight, adds_only_part, run_result, first_tight_from}
use Rattle.arraystring_run.specs.ReplyAgreement.{commands_before, RepliesAgreeExceptCapacity, AllRepliesAgree, IsNoLater}
use Rattle.arraystring_run.specs.declared.commands.Command.{Command}
use Rattle.arraystring_run.specs.declared.commands.Command.TheVariants as command
use Rattle.arraystring_run.proofs.RunLemmas.{is_cut-larger, is_empty-none, of-none}
use Rattle.arraystring_run.proofs.TightLemmas.{first_tight-only, first_tight-at}
use Rattle.arraystring_run.proofs.runs.run_both.Goals.{then-not-is_empty, else-not-is_empty}
use Rattle.arraystring_run.proofs.runs.run_both.Goals as goal

-- a command that isn't tight at the lesser capacity isn't at the greater, if it does the same
record IsSameStep (c : Command) (t : List ℕ) (n m : ℕ) : Type 0 where
  untight : is_tight c t m ≡ false
  text : (effect c t n).text ≡ (effect c t m).text
  agrees : RepliesAgreeExceptCapacity c (effect c t n).reply (effect c t m).reply

-- a text that fits whole at n does so at m
module _ (t : List ℕ) (n m : ℕ) (le : n ≤ m) where
  fits : (given : List ℕ) → adds_only_part t given n ≡ false → size given ≤ n - size t
  fits given whole = ltb-false (n - size t) (size given) (is_cut-larger given (n - size t) ∙ whole)

  adds_all : (given : List ℕ) → adds_only_part t given n ≡ false → adds_only_part t given m ≡ false
  adds_all given whole =
      let f = fits given whole in
      sym (is_cut-larger given (m - size t)) ∙ le-ltb (m - size t) (size given) (omega arith)

  same_cut : (given : List ℕ) → adds_only_part t given n ≡ false → cut given (n - size t) ≡ cut given (m - size t)
  same_cut given whole =
      let f = fits given whole in
      let more : size given ≤ m - size t = omega arith in cut-all f ∙ sym (cut-all more)

-- for all commands at once, but that whose replies are set aside: a row that has room at n has it at m, and a cut that is whole
-- is the same cut. `grind` goes through the commands
same-step : (c : Command) (t : List ℕ) (n m : ℕ) → n ≤ m → is_tight c t n ≡ false → IsSameStep c t n m
same-step command.Capacity t n m le loose = record { untight = refl; text = refl; agrees = tt }
same-step c t n m le loose =
    let same : effect c t n ≡ effect c t m = grind (arith, same_cut t n m le) in record {
      untight = grind (arith, adds_all t n m le);
      text = ap (λ (e : Effect). e.text) same;
      agrees = ap (λ (e : Effect). e.reply) same;
    }

-- a position, counted from one command further on
abbrev next : Option ℕ → Option ℕ
next None = None
next (Some k) = Some (k + 1)

next-if : (b : Bool) (k : ℕ) (o : Option ℕ) → (if b then Some (k + 1) else next o) ≡ next (if b then Some k else o)
next-if true k o = refl
next-if false k o = refl

tight-from_next : (k : ℕ) (cs : List Command) (t : List ℕ) (n : ℕ) → first_tight_from (k + 1) cs t n ≡ next (first_tight_from k cs t n)
tight-from_next k [] t n = refl
tight-from_next k (c ∷ cs) t n =
    rw (tight-from_next (k + 1) cs (effect c t n).text n) (next-if (is_tight c t n) k (first_tight_from (k + 1) cs (effect c t n).text n))

commands_before-next : (c : Command) (cs : List Command) (o : Option ℕ) → commands_before (c ∷ cs) (next o) ≡ c ∷ commands_before cs o
commands_before-next c cs None = refl
commands_before-next c cs (Some k) = let up : k + 1 ≡ suc k = omega arith in ap (λ j. take j (c ∷ cs)) up

no_sooner-next : (a b : Option ℕ) → IsNoLater a b → IsNoLater (next a) (next b)
no_sooner-next None None is = tt
no_sooner-next (Some k) None is = tt
no_sooner-next None (Some j) is = is
no_sooner-next (Some k) (Some j) is = let le : k ≤ j = is in omega arith

none-next : (o : Option ℕ) → next o ≡ None → o ≡ None
none-next None e = refl
none-next (Some k) e = absurd (cc)

-- what runs from t at two capacities, n and m, have alike, if the first tight command at n is at `first`
record AreAlike (cs : List Command) (t : List ℕ) (n m : ℕ) (first : Option ℕ) : Type 0 where
  agree : AllRepliesAgree (commands_before cs first) (run_result cs t n).replies (run_result cs t m).replies
  no_sooner : IsNoLater first (first_tight_from 0 cs t m)
  same_text : first ≡ None → (run_result cs t n).text ≡ (run_result cs t m).text

alike : (cs : List Command) (t : List ℕ) (n m : ℕ) → n ≤ m → AreAlike cs t n m (first_tight_from 0 cs t n)
alike [] t n m le = record { agree = tt; no_sooner = tt; same_text = λ none. refl }
alike (c ∷ cs) t n m le = go (is_tight c t n) refl (alike cs (effect c t n).text n m le)
  where
    zero-first : (o : Option ℕ) → IsNoLater (Some 0) o
    zero-first None = tt
    zero-first (Some j) = omega arith

    go : (b : Bool) → is_tight c t n ≡ b → AreAlike cs (effect c t n).text n m (first_tight_from 0 cs (effect c t n).text n)
        → AreAlike (c ∷ cs) t n m (if b then Some 0 else first_tight_from 1 cs (effect c t n).text n)
    go true e rest =
        record { agree = tt; no_sooner = zero-first (first_tight_from 0 (c ∷ cs) t m); same_text = λ none. absurd (cc) }
    go false e rest =
        let same = same-step c t n m le e in
        let first = first_tight_from 0 cs (effect c t n).text n in
        let later = tight-from_next 0 cs (effect c t n).text in
        record {
          agree = rw (later n, commands_before-next c cs first) (same.agrees, rw (← same.text) rest.agree);
          no_sooner = rw (same.untight, ← same.text, later n, later m)
              (no_sooner-next first (first_tight_from 0 cs (effect c t n).text m) rest.no_sooner);
          same_text = λ none. cc (rest.same_text (none-next first (sym (later n) ∙ none)), same.text);
        }

pub returns-clause-second_replies : goal.returns-clause-second_replies
returns-clause-second_replies g c = elim c.if-not-is_empty.branch [
  | then-not-is_empty w ↦ ap (λ v. map view_of_reply v.items) w.second_replies-is ∙ w.execute_all_and_find_tight-first_tight.ensures.replies
  | else-not-is_empty w ↦
      ap (λ v. map view_of_reply v.items) w.second_replies-is ∙ ap (map view_of_reply) c.in_ok-second_replies.ensures.items
      ∙ sym (of-none _ c.args.second.now.text (cap g.row.M) w.if-not-is_empty.ensures).0
]

pub returns-clause-second_text : goal.returns-clause-second_text
returns-clause-second_text g c = elim c.if-not-is_empty.branch [
  | then-not-is_empty w ↦ ap (λ t. t.text) w.second-is ∙ w.execute_all_and_find_tight-first_tight.ensures.text
  | else-not-is_empty w ↦ ap (λ t. t.text) w.second-is ∙ sym (of-none _ c.args.second.now.text (cap g.row.M) w.if-not-is_empty.ensures).1
]

pub returns-clause-second_tight : goal.returns-clause-second_tight
returns-clause-second_tight g c = elim c.if-not-is_empty.branch [
  | then-not-is_empty w ↦ first_tight-at _ _ _ _ (w.first_tight-is ∙ w.execute_all_and_find_tight-first_tight.ensures.first_tight)
  | else-not-is_empty w ↦
      first_tight-at _ _ _ _ (w.first_tight-is ∙ sym (of-none _ c.args.second.now.text (cap g.row.M) w.if-not-is_empty.ensures).2)
]

pub returns-clause-one_each : goal.returns-clause-one_each
returns-clause-one_each g c = elim c.if-not-is_empty.branch [
  | then-not-is_empty w ↦ (c.in_ok-first_outcome.ensures.one_each, ap (λ v. v.len) w.second_replies-is ∙ w.execute_all_and_find_tight-first_tight.ensures.one_each)
  | else-not-is_empty w ↦ (
    c.in_ok-first_outcome.ensures.one_each,
    ap (λ v. v.len) w.second_replies-is ∙ c.in_ok-second_replies.ensures.len ∙ sym (ap length (is_empty-none c.args.commands.now w.if-not-is_empty.ensures)),
  )
]

pub returns-clause-agree : goal.returns-clause-agree
returns-clause-agree g c = λ same le.
    let first = c.in_ok-first_outcome.ensures in
    let at = first_tight-only _ _ _ _ first.first_tight in
    rw (first.replies, at, returns-clause-second_replies g c, ← same)
    (alike c.args.commands.now c.args.first.now.text (cap g.row.N) (cap g.row.M) le).agree

pub returns-clause-no_sooner : goal.returns-clause-no_sooner
returns-clause-no_sooner g c = λ same le.
    let at = first_tight-only _ _ _ _ c.in_ok-first_outcome.ensures.first_tight in
    let second_at = first_tight-only _ _ _ _ (returns-clause-second_tight g c) in
    rw (at, second_at, ← same)
    (alike c.args.commands.now c.args.first.now.text (cap g.row.N) (cap g.row.M) le).no_sooner

pub returns-clause-same_text : goal.returns-clause-same_text
returns-clause-same_text g c = λ same le none.
    let cs = c.args.commands.now in let first = c.in_ok-first_outcome.ensures in
    let at = first_tight-only _ _ _ _ first.first_tight in
    first.text ∙ (alike cs c.args.first.now.text (cap g.row.N) (cap g.row.M) le).same_text (sym at ∙ none)
    ∙ ap (λ t. (run_result cs t (cap g.row.M)).text) same ∙ sym (returns-clause-second_text g c)
