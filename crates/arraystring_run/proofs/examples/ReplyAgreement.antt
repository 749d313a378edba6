-- Examples of when two runs agree.
use Rattle.std.proofs.Common.{◌≡◌, [], ◌∷◌, Some, None, refl, arith, lit≤}
use Rattle.arraystring.specs.Refusals.{OutOfBounds, Utf8}
use Rattle.arraystring_run.specs.ReplyAgreement.{commands_before, RepliesAgreeExceptCapacity, AllRepliesAgree, IsNoLater}
use Rattle.arraystring_run.specs.Effects.{Done, Char, NoChar, Number, Refused}
use Rattle.arraystring_run.specs.declared.commands.Command.{Command}
use Rattle.arraystring_run.specs.declared.commands.Command.TheVariants as command

commands_before-none_is_tight : commands_before (command.Pop ∷ command.Len ∷ []) None ≡ command.Pop ∷ command.Len ∷ []
commands_before-none_is_tight = refl

commands_before-the_first_is : commands_before (command.Pop ∷ command.Len ∷ []) (Some 0) ≡ []
commands_before-the_first_is = refl

commands_before-the_second_is : commands_before (command.Pop ∷ command.Len ∷ []) (Some 1) ≡ command.Pop ∷ []
commands_before-the_second_is = refl

RepliesAgreeExceptCapacity-same : RepliesAgreeExceptCapacity command.Pop (Char 0x65) (Char 0x65)
RepliesAgreeExceptCapacity-same = refl

RepliesAgreeExceptCapacity-another_character : RepliesAgreeExceptCapacity command.Pop (Char 0x65) (Char 0x66) → ⊥
RepliesAgreeExceptCapacity-another_character e = grind arith

RepliesAgreeExceptCapacity-another_error : RepliesAgreeExceptCapacity (command.Remove 1) (Refused OutOfBounds) (Refused Utf8) → ⊥
RepliesAgreeExceptCapacity-another_error e = cc

RepliesAgreeExceptCapacity-another_length : RepliesAgreeExceptCapacity command.Len (Number 4) (Number 23) → ⊥
RepliesAgreeExceptCapacity-another_length e = grind arith

-- each reply is the capacity of its own run
RepliesAgreeExceptCapacity-capacity_is_set_aside : RepliesAgreeExceptCapacity command.Capacity (Number 4) (Number 23)
RepliesAgreeExceptCapacity-capacity_is_set_aside = tt

-- no other reply is
RepliesAgreeExceptCapacity-no_other_is_set_aside : (c : Command) → (c ≡ command.Capacity → ⊥) → RepliesAgreeExceptCapacity c Done NoChar → ⊥
RepliesAgreeExceptCapacity-no_other_is_set_aside command.Capacity other agrees = other refl
RepliesAgreeExceptCapacity-no_other_is_set_aside _ other agrees = cc

AllRepliesAgree-of_no_command : AllRepliesAgree [] [] (Done ∷ [])
AllRepliesAgree-of_no_command = tt

-- as `"ab"` at the capacities 4 and 23 replies
AllRepliesAgree-at_two_capacities : AllRepliesAgree (command.Remove 9 ∷ command.Capacity ∷ command.TryPush 0x63 ∷ [])
    (Refused OutOfBounds ∷ Number 4 ∷ Done ∷ []) (Refused OutOfBounds ∷ Number 23 ∷ Done ∷ [])
AllRepliesAgree-at_two_capacities = (refl, (tt, (refl, tt)))

AllRepliesAgree-more_replies_follow : AllRepliesAgree (command.Pop ∷ []) (NoChar ∷ Done ∷ []) (NoChar ∷ [])
AllRepliesAgree-more_replies_follow = (refl, tt)

AllRepliesAgree-the_first_does_not : AllRepliesAgree (command.Pop ∷ command.Len ∷ []) (Char 0x65 ∷ Number 1 ∷ []) (NoChar ∷ Number 1 ∷ []) → ⊥
AllRepliesAgree-the_first_does_not all = let e : Char 0x65 ≡ NoChar = all.0 in cc

AllRepliesAgree-the_last_does_not : AllRepliesAgree (command.Pop ∷ command.Len ∷ []) (NoChar ∷ Number 1 ∷ []) (NoChar ∷ Number 2 ∷ []) → ⊥
AllRepliesAgree-the_last_does_not all = let e : Number 1 ≡ Number 2 = all.1.0 in grind arith

AllRepliesAgree-the_first_run_lacks_a_reply : AllRepliesAgree (command.Pop ∷ []) [] (NoChar ∷ []) → ⊥
AllRepliesAgree-the_first_run_lacks_a_reply all = all

AllRepliesAgree-the_second_run_lacks_a_reply : AllRepliesAgree (command.Pop ∷ []) (NoChar ∷ []) [] → ⊥
AllRepliesAgree-the_second_run_lacks_a_reply all = all

IsNoLater-than_none : IsNoLater (Some 3) None
IsNoLater-than_none = tt

IsNoLater-later : IsNoLater (Some 1) (Some 2)
IsNoLater-later = lit≤ tt

IsNoLater-at_the_same : IsNoLater (Some 1) (Some 1)
IsNoLater-at_the_same = lit≤ tt

IsNoLater-sooner : IsNoLater (Some 2) (Some 1) → ⊥
IsNoLater-sooner le = omega arith

IsNoLater-where_the_first_is_none : IsNoLater None (Some 7) → ⊥
IsNoLater-where_the_first_is_none le = le
