-- The effect of a command on a list of characters is the reply, and the text that the command leaves.
use Rattle.std.specs.Prelude.{◌≡◌, ℕ, ◌+◌, ◌-◌, ◌==◌, ◌&&◌, List, [], ◌∷◌, ◌++◌, length, Bool, true, false, not, Option, Some, None, is_none, Result, Ok, Err, if◌then◌else◌, nat_lt, min, chars, reverse}
use Rattle.std.specs.List.{filter}
use Rattle.arraystring.specs.Text.{size, cut}
use Rattle.arraystring.specs.Edits.{Edit, RefusalCause, Room, result_of, text_after_edit, first_cause, checked_part, addition, addition_of_cut, popping, truncation, trimming_matches, is_white_space, removal, insertion, insertion_of_cut, split, clearing, draining, replacement, uppercase, lowercase}
use Rattle.arraystring.specs.Refusals.{Error}
use Rattle.arraystring_run.specs.declared.commands.Command.{Command}
use Rattle.arraystring_run.specs.declared.commands.Command.TheVariants as command
use Rattle.arraystring_run.specs.declared.commands.Reply.{Reply}
use Rattle.arraystring_run.specs.declared.commands.Reply.TheVariants as reply

-- a reply as contracts see it, with a text in place of the string in it
pub data ReplyView : Type 0 where
  Done : ReplyView
  Char : ℕ → ReplyView
  NoChar : ReplyView
  Text : List ℕ → ReplyView
  NoText : ReplyView
  Number : ℕ → ReplyView
  Refused : Error → ReplyView

-- the view that contracts have of a reply
abbrev pub view_of_reply : {N : ℕ} → Reply N → ReplyView
view_of_reply reply.Done = Done
view_of_reply (reply.Char c) = Char c
view_of_reply reply.NoChar = NoChar
view_of_reply (reply.Text s) = Text s.text
view_of_reply reply.NoText = NoText
view_of_reply (reply.Number n) = Number n
view_of_reply (reply.Refused e) = Refused e

-- the effect of a command: its reply, and the text that it leaves
pub record Effect : Type 0 where
  pub reply : ReplyView
  pub text : List ℕ

-- the effect that has this reply and this text
abbrev pub make_effect : ReplyView → List ℕ → Effect
make_effect r t = record { reply = r; text = t }

-- the reply that a result gives: what `view` makes of its value, or `Refused` with its error
abbrev pub reply_of_result : {A : Type 0} → (A → ReplyView) → Result A Error → ReplyView
reply_of_result view (Ok value) = view value
reply_of_result view (Err e) = Refused e

-- the effect of one edit, a row of the table of edits (docs/trust.md), on the text t; `view` makes a reply of what the edit returns
abbrev pub apply : {A : Type 0} → (A → ReplyView) → Edit A → List ℕ → Effect
apply view row t = make_effect (reply_of_result view (result_of row)) (text_after_edit row t)

-- the effect of one edit that returns the unit `()`, on the text t: the reply is `Done`, or `Refused`
abbrev pub apply_unit : Edit (Unit {0}) → List ℕ → Effect
apply_unit row t = apply (λ _. Done) row t

-- the reply `Char` with this character, or `NoChar` if there is no character
abbrev pub char_reply : Option ℕ → ReplyView
char_reply None = NoChar
char_reply (Some c) = Char c

-- the reply `Text` with this text, or `NoText` if there is no text
abbrev pub text_reply : Option (List ℕ) → ReplyView
text_reply None = NoText
text_reply (Some t) = Text t

-- the text t without the characters that are c
abbrev pub without : ℕ → List ℕ → List ℕ
without c t = filter (λ d. not (d == c)) t

-- the end of a range whose last byte is at the index `last`: the next index, but at most 255
abbrev pub end_through : ℕ → ℕ
end_through last = min (last + 1) 255

-- the effect of a command on t at the capacity n
abbrev pub effect : Command → List ℕ → ℕ → Effect
effect (command.TryPush c) t n = apply_unit (addition t (c ∷ []) n) t
effect (command.TryPushStr given) t n = apply_unit (addition t (chars given.now) n) t
effect (command.PushStr given) t n = apply_unit (addition_of_cut t (chars given.now) n) t
effect command.Pop t n = apply char_reply (popping t) t
effect (command.Truncate i) t n = apply_unit (truncation t i) t
effect command.Trim t n = apply_unit (trimming_matches is_white_space t) t
effect (command.Remove i) t n = apply Char (removal t i) t
effect (command.RetainNot c) t n = make_effect Done (without c t)
effect (command.TryInsert i c) t n = apply_unit (insertion t i (c ∷ []) n) t
effect (command.TryInsertStr i given) t n = apply_unit (insertion t i (chars given.now) n) t
effect (command.InsertStr i given) t n = apply_unit (insertion_of_cut t i (chars given.now) n) t
effect (command.SplitOff i) t n = apply Text (split t i) t
effect command.Clear t n = apply_unit clearing t
effect (command.Drain start end) t n = apply Text (draining t start end) t
effect (command.DrainThrough start last) t n = apply Text (draining t start (end_through last)) t
effect (command.DrainBack start end) t n = apply (λ removed. Text (reverse removed)) (draining t start end) t
effect (command.ReplaceRange start end given) t n = apply_unit (replacement t start end (chars given.now) n) t
effect command.Upper t n = apply_unit (uppercase t) t
effect command.Lower t n = apply_unit (lowercase t) t
effect (command.Get start end) t n = make_effect (text_reply (checked_part t start end)) t
effect command.Len t n = make_effect (Number (size t)) t
effect command.Capacity t n = make_effect (Number n) t
effect command.AsStr t n = make_effect (Text t) t

-- whether a cause is `Room`
abbrev pub is_room : Option RefusalCause → Bool
is_room (Some Room) = true
is_room _ = false

-- whether an edit is refused for want of room: the first of its tests that holds has the cause `Room`
abbrev pub is_refused_for_room : {A : Type 0} → Edit A → Bool
is_refused_for_room row = is_room (first_cause row.tests)

-- whether an edit is made, which it is if none of its tests holds
abbrev pub is_accepted : {A : Type 0} → Edit A → Bool
is_accepted row = is_none (first_cause row.tests)

-- whether less than all of `given` fits after t at the capacity n
abbrev pub adds_only_part : List ℕ → List ℕ → ℕ → Bool
adds_only_part t given n = nat_lt (size (cut given (n - size t))) (size given)

-- whether a command is tight on t at the capacity n: it is refused for `Room`, or adds less than all of what it is given
abbrev pub is_tight : Command → List ℕ → ℕ → Bool
is_tight (command.TryPush c) t n = is_refused_for_room (addition t (c ∷ []) n)
is_tight (command.TryPushStr given) t n = is_refused_for_room (addition t (chars given.now) n)
is_tight (command.PushStr given) t n = adds_only_part t (chars given.now) n
is_tight (command.TryInsert i c) t n = is_refused_for_room (insertion t i (c ∷ []) n)
is_tight (command.TryInsertStr i given) t n = is_refused_for_room (insertion t i (chars given.now) n)
is_tight (command.InsertStr i given) t n = is_accepted (insertion_of_cut t i (chars given.now) n) && adds_only_part t (chars given.now) n
is_tight (command.ReplaceRange start end given) t n = is_refused_for_room (replacement t start end (chars given.now) n)
is_tight _ t n = false

-- the result of a run of commands: all replies, and the text at the end. Each command edits the text that the one before left
pub record RepliesAndText : Type 0 where
  pub replies : List ReplyView
  pub text : List ℕ

-- the result of a run of these commands that begins with the text t, at the capacity n
abbrev pub run_result : List Command → List ℕ → ℕ → RepliesAndText
run_result [] t n = record { replies = []; text = t }
run_result (c ∷ cs) t n =
    let rest = run_result cs (effect c t n).text n in record { replies = (effect c t n).reply ∷ rest.replies; text = rest.text }

-- the position of the first tight command in a run that begins with the text t, at the capacity n, or `None` if none is tight. The first
-- command of the run has the position k
abbrev pub first_tight_from : ℕ → List Command → List ℕ → ℕ → Option ℕ
first_tight_from k [] t n = None
first_tight_from k (c ∷ cs) t n = if is_tight c t n then Some k else first_tight_from (k + 1) cs (effect c t n).text n

-- the first of two positions, or the second if the first is `None`
abbrev pub first_some : Option ℕ → Option ℕ → Option ℕ
first_some None next = next
first_some (Some k) next = Some k

-- in a run that begins with the text t, at the capacity n, no command is tight on the text that the commands before it leave
abbrev pub NoneTight : List Command → List ℕ → ℕ → Type 0
NoneTight cs t n = (before : List Command) (c : Command) (later : List Command) → cs ≡ before ++ c ∷ later
    → is_tight c (run_result before t n).text n ≡ false

-- in a run that begins with the text t, at the capacity n, the command at position k, counted from 0, is tight on the text that the
-- commands before it leave, and no command before it is tight
abbrev pub IsFirstTight : List Command → List ℕ → ℕ → ℕ → Type 0
IsFirstTight cs t n k = (before : List Command) × (c : Command) × (later : List Command) × (cs ≡ before ++ c ∷ later)
    × (k ≡ length before) × (is_tight c (run_result before t n).text n ≡ true) × NoneTight before t n
