-- Two runs of the same commands agree if their replies are the same, except for those to `Capacity`.
use Rattle.std.specs.Prelude.{◌≡◌, ◌≤◌, ⊤, ℕ, List, [], ◌∷◌, take, Option, Some, None}
use Rattle.arraystring_run.specs.Effects.{ReplyView}
use Rattle.arraystring_run.specs.declared.commands.Command.{Command}
use Rattle.arraystring_run.specs.declared.commands.Command.TheVariants as command

-- the commands before the first tight one, at the given position; all commands if no position is given (`is_tight` of `Effects` says which
-- are tight)
abbrev pub commands_before : List Command → Option ℕ → List Command
commands_before cs None = cs
commands_before cs (Some k) = take k cs

-- two replies to a command are the same, except that replies to `Capacity` may differ
abbrev pub RepliesAgreeExceptCapacity : Command → ReplyView → ReplyView → Type 0
RepliesAgreeExceptCapacity command.Capacity r s = ⊤
RepliesAgreeExceptCapacity _ r s = r ≡ s

-- the two replies at the position of each command, one of each list, agree. Both lists are at least as long as that of the commands
abbrev pub AllRepliesAgree : List Command → List ReplyView → List ReplyView → Type 0
AllRepliesAgree [] rs ss = ⊤
AllRepliesAgree (c ∷ cs) [] ss = ⊥
AllRepliesAgree (c ∷ cs) (r ∷ rs) [] = ⊥
AllRepliesAgree (c ∷ cs) (r ∷ rs) (s ∷ ss) = RepliesAgreeExceptCapacity c r s × AllRepliesAgree cs rs ss

-- the second position does not come before the first: if there is a second, there is a first, and it is at most as great
abbrev pub IsNoLater : Option ℕ → Option ℕ → Type 0
IsNoLater first None = ⊤
IsNoLater None (Some j) = ⊥
IsNoLater (Some k) (Some j) = k ≤ j
