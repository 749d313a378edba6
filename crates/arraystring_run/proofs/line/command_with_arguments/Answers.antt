use Rattle.std.proofs.Common.{◌≢◌, ℕ, List, [], ◌∷◌, length, refl, arith, inl, inr}
use Rattle.std.proofs.lemmas.Bool.{cases_lt}
use Rattle.arraystring.proofs.TextLaws.{utf8-well_formed}
use Rattle.arraystring_run.specs.declared.commands.Command.TheVariants as command
use Rattle.arraystring_run.specs.CommandLines.{Argument, Number, Character, Text, SpellsArguments, arguments, space}
use Rattle.arraystring_run.proofs.LineLemmas.{unread, no-character, no-number, if-none, line-parts, line-given, spelled-one}
use Rattle.arraystring_run.proofs.line.command_with_arguments.Goals as goal

-- a space is followed by an argument
has-argument : (rest : List ℕ) (given : List Argument) → SpellsArguments (space ∷ rest) given → given ≢ []
has-argument rest [] none e = absurd (cc)
has-argument rest (a ∷ given) spelled e = absurd (cc)

pub returns-in_err-only_char-in-try_push-clause-none : goal.returns-in_err-only_char-in-try_push-clause-none
returns-in_err-only_char-in-try_push-clause-none c =
    rw c.from_residual.ensures
    (unread (command.TryPush 0) _ _ c.requires c.in-try_push.is (no-character _ c.in_err-only_char-in-try_push.ensures.none))

pub returns-in_ok-only_char-in-try_push-clause-some : goal.returns-in_ok-only_char-in-try_push-clause-some
returns-in_ok-only_char-in-try_push-clause-some c =
    line-given (command.TryPush _) _ _ c.in-try_push.is (spelled-one (Character _) _ c.in_ok-only_char-in-try_push.ensures.some)

pub returns-in-try_push_str-clause-some : goal.returns-in-try_push_str-clause-some
returns-in-try_push_str-clause-some c =
    line-given (command.TryPushStr c.args.rest) _ _ c.in-try_push_str.is (spelled-one (Text _) _ (utf8-well_formed c.utf8.rest, refl))

pub returns-in-push_str-clause-some : goal.returns-in-push_str-clause-some
returns-in-push_str-clause-some c =
    line-given (command.PushStr c.args.rest) _ _ c.in-push_str.is (spelled-one (Text _) _ (utf8-well_formed c.utf8.rest, refl))

pub returns-in_err-parse_number-in-truncate-clause-none : goal.returns-in_err-parse_number-in-truncate-clause-none
returns-in_err-parse_number-in-truncate-clause-none c =
    rw c.from_residual-in_err-parse_number-in-truncate.ensures
    (unread (command.Truncate 0) _ _ c.requires c.in-truncate.is (no-number _ c.in_err-parse_number-in-truncate.ensures.none))

pub returns-in_ok-parse_number-in-truncate-clause-some : goal.returns-in_ok-parse_number-in-truncate-clause-some
returns-in_ok-parse_number-in-truncate-clause-some c =
    line-given (command.Truncate _) _ _ c.in-truncate.is (spelled-one (Number _) _ c.in_ok-parse_number-in-truncate.ensures.some)

pub returns-in_err-parse_number-in-remove-clause-none : goal.returns-in_err-parse_number-in-remove-clause-none
returns-in_err-parse_number-in-remove-clause-none c =
    rw c.from_residual-in_err-parse_number-in-remove.ensures
    (unread (command.Remove 0) _ _ c.requires c.in-remove.is (no-number _ c.in_err-parse_number-in-remove.ensures.none))

pub returns-in_ok-parse_number-in-remove-clause-some : goal.returns-in_ok-parse_number-in-remove-clause-some
returns-in_ok-parse_number-in-remove-clause-some c =
    line-given (command.Remove _) _ _ c.in-remove.is (spelled-one (Number _) _ c.in_ok-parse_number-in-remove.ensures.some)

pub returns-in_err-only_char-in-retain_not-clause-none : goal.returns-in_err-only_char-in-retain_not-clause-none
returns-in_err-only_char-in-retain_not-clause-none c =
    rw c.from_residual-in_err-only_char-in-retain_not.ensures
    (unread (command.RetainNot 0) _ _ c.requires c.in-retain_not.is (no-character _ c.in_err-only_char-in-retain_not.ensures.none))

pub returns-in_ok-only_char-in-retain_not-clause-some : goal.returns-in_ok-only_char-in-retain_not-clause-some
returns-in_ok-only_char-in-retain_not-clause-some c =
    line-given (command.RetainNot _) _ _ c.in-retain_not.is (spelled-one (Character _) _ c.in_ok-only_char-in-retain_not.ensures.some)

pub returns-in_err-parse_number-in-split_off-clause-none : goal.returns-in_err-parse_number-in-split_off-clause-none
returns-in_err-parse_number-in-split_off-clause-none c =
    rw c.from_residual-in_err-parse_number-in-split_off.ensures
    (unread (command.SplitOff 0) _ _ c.requires c.in-split_off.is (no-number _ c.in_err-parse_number-in-split_off.ensures.none))

pub returns-in_ok-parse_number-in-split_off-clause-some : goal.returns-in_ok-parse_number-in-split_off-clause-some
returns-in_ok-parse_number-in-split_off-clause-some c =
    line-given (command.SplitOff _) _ _ c.in-split_off.is (spelled-one (Number _) _ c.in_ok-parse_number-in-split_off.ensures.some)

-- `grind` goes through the commands: the word of each of fewer arguments is none of those above, or it has no argument
pub returns-in_default-clause-none : goal.returns-in_default-clause-none
returns-in_default-clause-none c = if-none c.command_of_number_and_more.result (λ none d line. elim (cases_lt (length (arguments d)) 2) [
  | inr more ↦ none d more line
  | inl few ↦
      let parts = line-parts c.args.word.now c.args.rest.now d c.requires line in
      let given = has-argument c.args.rest.now (arguments d) parts.1 in
      grind arith
]) c.command_of_number_and_more.ensures.none
