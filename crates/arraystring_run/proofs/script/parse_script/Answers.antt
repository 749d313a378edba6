use Rattle.std.proofs.Common.{◌≡◌, ◌≢◌, ℕ, suc, zero, ◌+◌, ◌-◌, ◌<◌, ◌≤◌, List, [], ◌∷◌, ◌++◌, ap, append_assoc, arith, drop, length, length-append, length-drop, length-take, refl, rules, slice_index, slice_range, subst, sym, ◌∙◌, take, take_all, IsUtf8}
use Rattle.std.proofs.lemmas.Bool.{ne_eqb}
use Rattle.std.proofs.lemmas.List.{append-nil, drop_all, drop-drop, get_or-drop}
use Rattle.std.proofs.lemmas.Str.{IsCharBoundary-start, lead_after_ascii}
use Rattle.arraystring_run.specs.CommandLines.{IsLineOf}
use Rattle.arraystring_run.specs.LinesOfScripts.{lines, line_feed, prepend_to_first_line, AreLinesOfCommands, IsBadAt}
use Rattle.arraystring_run.specs.declared.commands.Command.{Command}
use Rattle.arraystring_run.proofs.script.parse_script.Invariants.{IsPartRead}
use Rattle.arraystring_run.proofs.script.parse_script.Goals as goal

-- the first line ends at its line feed, and the others follow it
first-line : (bs : List ℕ) (end : ℕ) → 0 < length bs → end ≤ length bs
    → (end < length bs → slice_index bs end ≡ line_feed) → ((i : ℕ) → i < end → slice_index bs i ≢ line_feed)
    → lines bs ≡ take end bs ∷ lines (drop (end + 1) bs)
first-line [] end some le ends one = absurd (omega arith)
first-line (b ∷ bs) zero some le ends one = rw (ends (omega arith)) refl
first-line (b ∷ []) (suc end) some le ends one =
    let last : end ≡ 0 = omega arith in
    rw (last, ne_eqb b line_feed (one 0 (omega arith))) refl
first-line (b ∷ d ∷ bs) (suc end) some le ends one =
    let rest = first-line (d ∷ bs) end (omega arith) (omega arith) (λ lt. ends (omega arith)) (λ i lt. one (suc i) (omega arith)) in
    let up : suc end + 1 ≡ suc (end + 1) = omega arith in
    rw (ne_eqb b line_feed (one 0 (omega arith)), up) (ap (prepend_to_first_line b) rest)

-- A line of a script, if a search in what is left from `start` on found its end.
module _ (bs : List ℕ) (start len : ℕ) where
  -- what is left, as a slice has it
  abbrev rest : List ℕ
  rest = take (length bs - start) (drop start bs)

  rest-is : rest ≡ drop start bs
  rest-is = take_all (length bs - start) (drop start bs) (omega (arith, length-drop start bs))

  next-line : {all : List (List ℕ)} {done : List Command} {number : ℕ} → IsPartRead all done (lines (drop start bs)) number
      → start < length bs → len ≤ length rest → (len < length rest → slice_index rest len ≡ line_feed)
      → ((i : ℕ) → i < len → slice_index rest i ≢ line_feed)
      → IsPartRead all done (slice_range bs start (start + len) ∷ lines (drop (start + len + 1) bs)) number
  next-line {all} {done} {number} way lt le ends one =
      let some : 0 < length rest = omega (arith, ap length rest-is, length-drop start bs) in
      let size : start + len - start ≡ len = omega arith in
      let up : start + (len + 1) ≡ start + len + 1 = omega arith in
      let next : drop (len + 1) (drop start bs) ≡ drop (start + len + 1) bs = drop-drop (len + 1) start bs ∙ ap (λ k. drop k bs) up in
      subst (λ l. IsPartRead all done l number) (cc (rest-is, first-line rest len some le ends one)) way

  -- a character begins after its end
  after-line_feed : (len < length rest → slice_index rest len ≡ line_feed)
      → IsUtf8 bs → start + len + 1 < length bs → 128 ≤ slice_index bs (start + len + 1) → 192 ≤ slice_index bs (start + len + 1)
  after-line_feed ends u lt =
      let at = subst (λ l. len < length l → slice_index l len ≡ line_feed) rest-is ends (omega (arith, length-drop start bs)) in
      lead_after_ascii bs (start + len) u (omega (arith, get_or-drop start bs len 0)) lt

more-lines : (front : List (List ℕ)) (done : List Command) (line : List ℕ) (c : Command) → AreLinesOfCommands front done → IsLineOf line c
    → AreLinesOfCommands (front ++ line ∷ []) (done ++ c ∷ [])
more-lines [] [] line c are is = (is, tt)
more-lines [] (d ∷ done) line c are is = absurd are
more-lines (l ∷ front) [] line c are is = absurd are
more-lines (l ∷ front) (d ∷ done) line c are is = (are.0, more-lines front done line c are.1 is)

module _ {all : List (List ℕ)} {done : List Command} {line : List ℕ} {left : List (List ℕ)} {number : ℕ}
    (way : IsPartRead all done (line ∷ left) number) where
  read-more : (c : Command) → IsLineOf line c → IsPartRead all (done ++ c ∷ []) left (number + 1)
  read-more c is = record {
    front = way.front ++ line ∷ [];
    whole = way.whole ∙ sym (append_assoc way.front (line ∷ []) left);
    count = omega (arith, length-append way.front (line ∷ []));
    read = more-lines way.front done line c way.read is;
  }

  read-bad : ((c : Command) → IsLineOf line c → ⊥) → IsBadAt all (number + 1)
  read-bad bad = record {
    front = way.front;
    commands = done;
    line = line;
    rest = left;
    whole = way.whole;
    number = omega arith;
    before = way.read;
    bad = bad;
  }

pub loop-start-init : goal.loop-start-init
loop-start-init c =
    let none : c.new-commands.result.items ≡ [] = search rules in
    record {
      short = omega arith;
      within = omega arith;
      read = rw none (record { front = []; whole = refl; count = refl; read = tt });
      text = search rules;
      boundary = λ u. (IsCharBoundary-start c.args.script.now u).1;
    }

pub returns-in_default-clause-bad_line : goal.returns-in_default-clause-bad_line
returns-in_default-clause-bad_line c =
    let found = c.byte_position_or_len.ensures in
    read-bad (next-line _ _ _ c.loop-start.invariant.read c.loop-start-test.true found.at_most found.found found.before) c.in_default.ensures.none

pub loop-start-preserved : goal.loop-start-preserved
loop-start-preserved c =
    let bs = c.args.script.now in
    let start = c.loop-start.start in
    let way = c.loop-start.invariant in
    let found = c.byte_position_or_len.ensures in
    let here = next-line _ _ _ way.read c.loop-start-test.true found.at_most found.found found.before in
    let pushed : c.push.new.self.items ≡ c.loop-start.commands.items ++ c.in-Some.command ∷ [] = search rules in
    record {
      short = omega arith;
      within = omega (arith, length-take (length bs - start) (drop start bs), length-drop start bs);
      read = rw pushed (read-more here c.in-Some.command c.in-Some.ensures.some);
      text = way.text;
      boundary = after-line_feed bs start c.byte_position_or_len.result found.found;
    }

pub returns-clause-accepted : goal.returns-clause-accepted
returns-clause-accepted c =
    let way = c.loop-start.invariant.read in
    let none = ap (λ l. way.front ++ lines l) (drop_all c.loop-start.start c.args.script.now c.loop-start-test.false) in
    subst (λ l. AreLinesOfCommands l c.loop-start.commands.items) (sym (way.whole ∙ none ∙ append-nil way.front)) way.read

pub returns-in_default-clause-faults : goal.returns-in_default-clause-faults
returns-in_default-clause-faults c = search rules
