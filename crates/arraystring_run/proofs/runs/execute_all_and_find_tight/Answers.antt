use Rattle.std.proofs.Common.{◌≡◌, ℕ, ◌+◌, ◌<◌, ◌≤◌, List, [], ◌∷◌, ◌++◌, length, drop, get_or, append_assoc, refl, rules, sym, ◌∙◌, Option, Some, None, Bool, true, false, if◌then◌else◌}
use Rattle.std.proofs.lemmas.List.{append-nil, drop_all, drop_more, nil_from_length}
use Rattle.arraystring_run.specs.Effects.{ReplyView, effect, is_tight, run_result, first_tight_from, first_some}
use Rattle.arraystring_run.specs.declared.commands.Command.{Command}
use Rattle.arraystring_run.proofs.runs.execute_all_and_find_tight.Invariants.{IsPartWay}
use Rattle.arraystring_run.proofs.runs.execute_all_and_find_tight.Goals as goal

first_some-none : (first : Option ℕ) → first_some first None ≡ first
first_some-none None = refl
first_some-none (Some k) = refl

first_some-step : (first : Option ℕ) (b : Bool) (i : ℕ) (rest : Option ℕ)
    → first_some first (if b then Some i else rest) ≡ first_some (first_some first (if b then Some i else None)) rest
first_some-step None true i rest = refl
first_some-step None false i rest = refl
first_some-step (Some k) b i rest = refl

module _ {cs : List Command} {t₀ : List ℕ} {n i : ℕ} {done : List ReplyView} {t : List ℕ} {first : Option ℕ}
    (way : IsPartWay cs t₀ n i done t first) where
  at-end : length cs ≤ i → ((run_result cs t₀ n).replies ≡ done) × ((run_result cs t₀ n).text ≡ t) × (first_tight_from 0 cs t₀ n ≡ first)
  at-end le =
      let none = drop_all i cs le in (
        way.replies ∙ rw none (append-nil done),
        way.text ∙ rw none refl,
        way.tight ∙ rw none (first_some-none first),
      )

  -- the next command is done
  one-more : (d : Command) → i < length cs → let command = get_or cs i d in
      IsPartWay cs t₀ n (i + 1) (done ++ (effect command t n).reply ∷ []) (effect command t n).text
      (first_some first (if is_tight command t n then Some i else None))
  one-more d lt =
      let command = get_or cs i d in
      let next = drop_more cs i d lt in
      let later = (effect command t n).text in record {
        replies = way.replies ∙ rw next (sym (append_assoc done ((effect command t n).reply ∷ [])
            (run_result (drop (i + 1) cs) later n).replies));
        text = way.text ∙ rw next refl;
        tight = way.tight ∙ rw next (first_some-step first (is_tight command t n) i (first_tight_from (i + 1) (drop (i + 1) cs) later n));
      }

pub returns-clause-replies : goal.returns-clause-replies
returns-clause-replies g c = sym (at-end c.loop-position.invariant.way c.loop-position-test.false).0

pub returns-clause-text : goal.returns-clause-text
returns-clause-text g c = sym (at-end c.loop-position.invariant.way c.loop-position-test.false).1

pub returns-clause-first_tight : goal.returns-clause-first_tight
returns-clause-first_tight g c = sym (at-end c.loop-position.invariant.way c.loop-position-test.false).2

pub loop-position-init : goal.loop-position-init
loop-position-init g c =
    let replies = c.args.replies.now in
    let none = nil_from_length replies.items (sym replies.ok.0 ∙ c.requires.empty) in
    record {
      way = rw none (record { replies = refl; text = refl; tight = refl });
      one_each = c.requires.empty;
      reserved = c.requires.room;
      in_place = refl;
    }

-- one more command is done, as execute_and_add_reply says
pub loop-position-preserved : goal.loop-position-preserved
loop-position-preserved g c =
    let l = c.loop-position in
    let added = c.execute_and_add_reply-is_tight.ensures in
    let next = one-more l.invariant.way _ c.loop-position-test.true in
    record {
      way = rw (added.reply, added.text, c.first_tight_so_far-first_tight.ensures, added.tight) next;
      one_each = search rules;
      reserved = search rules;
      in_place = search rules;
    }
