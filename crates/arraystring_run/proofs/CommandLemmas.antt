-- What the word of a command says. Each proof goes through all commands, and is the same for each: it names one because a
-- catch-all is split into cases only below a clause that has one.
use lib.Utf8.{encode}
use Rattle.std.proofs.Common.{◌≡◌, ℕ, List, [], ◌∷◌, map, get_or, refl, sym, ap, ◌∙◌, cond, nat_eq, nat_lt, Bool, true, ◌==◌, ◌&&◌}
use Rattle.std.specs.Borrow.{Bor}
use Rattle.std.specs.Cmp.Lexicographic.{pointwise}
use Rattle.std.specs.Str.{IsUtf8}
use Rattle.arraystring_run.specs.declared.commands.Command.{Command}
use Rattle.arraystring_run.specs.declared.commands.Command.TheVariants as command
use Rattle.arraystring_run.specs.Effects.{effect}
use Rattle.arraystring_run.specs.CommandLines.{Argument, Number, Character, Text, word, arguments, space}

-- bytes above the space
unfoldable pub are_above_space : List ℕ → Bool
are_above_space [] = true
are_above_space (b ∷ bs) = nat_lt space b && are_above_space bs

pub word-above_space : (c : Command) → are_above_space (word c) ≡ true
unfolding are_above_space
word-above_space command.Pop = refl
word-above_space _ = refl

pub word-utf8 : (c : Command) → IsUtf8 (word c)
unfolding encode
word-utf8 command.Pop = (word command.Pop, (refl, refl))
word-utf8 c = (word c, (refl, refl))

-- the kind of an argument
abbrev pub kind : Argument → ℕ
kind (Number n) = 0
kind (Character c) = 1
kind (Text given) = 2

abbrev pub kinds : Command → List ℕ
kinds c = map kind (arguments c)

-- only the last argument is no number
abbrev pub numbers_first : List ℕ → Bool
numbers_first [] = true
numbers_first (k ∷ []) = true
numbers_first (k ∷ l ∷ others) = (k == 0) && numbers_first (l ∷ others)

pub kinds-numbers_first : (c : Command) → numbers_first (kinds c) ≡ true
kinds-numbers_first command.Pop = refl
kinds-numbers_first _ = refl

abbrev value : List Argument → ℕ → ℕ
value given i = elim (get_or given i (Number 0)) [ Number n ↦ n | Character c ↦ c | Text l ↦ 0 ]

abbrev text : List Argument → ℕ → Bor (List ℕ)
text given i = record {
  ref_ptr = (0, 0);
  now = elim (get_or given i (Number 0)) [ Number n ↦ [] | Character c ↦ [] | Text l ↦ l ];
}

-- each command, made of its arguments
abbrev commands : List (List Argument → Command)
commands =
    (λ given. command.TryPush (value given 0))
    ∷ (λ given. command.TryPushStr (text given 0))
    ∷ (λ given. command.PushStr (text given 0))
    ∷ (λ given. command.Pop)
    ∷ (λ given. command.Truncate (value given 0))
    ∷ (λ given. command.Trim)
    ∷ (λ given. command.Remove (value given 0))
    ∷ (λ given. command.RetainNot (value given 0))
    ∷ (λ given. command.TryInsert (value given 0) (value given 1))
    ∷ (λ given. command.TryInsertStr (value given 0) (text given 1))
    ∷ (λ given. command.InsertStr (value given 0) (text given 1))
    ∷ (λ given. command.SplitOff (value given 0))
    ∷ (λ given. command.Clear)
    ∷ (λ given. command.Drain (value given 0) (value given 1))
    ∷ (λ given. command.DrainThrough (value given 0) (value given 1))
    ∷ (λ given. command.DrainBack (value given 0) (value given 1))
    ∷ (λ given. command.ReplaceRange (value given 0) (value given 1) (text given 2))
    ∷ (λ given. command.Upper)
    ∷ (λ given. command.Lower)
    ∷ (λ given. command.Get (value given 0) (value given 1))
    ∷ (λ given. command.Len)
    ∷ (λ given. command.Capacity)
    ∷ (λ given. command.AsStr)
    ∷ []

-- the first of these that has a word
abbrev named : List (List Argument → Command) → List ℕ → List Argument → Command
named [] w given = command.Pop
named (make ∷ others) w given = cond (pointwise nat_eq w (word (make []))) (make given) (named others w given)

own-kinds : (c : Command) → kinds (named commands (word c) []) ≡ kinds c
own-kinds command.Pop = refl
own-kinds _ = refl

own-effect : (c : Command) (t : List ℕ) (n : ℕ) → effect (named commands (word c) (arguments c)) t n ≡ effect c t n
own-effect command.Pop t n = refl
own-effect _ t n = refl

-- a word has one command, so commands that share it need not be compared with one another
pub same-kinds : (c d : Command) → word c ≡ word d → kinds c ≡ kinds d
same-kinds c d one = sym (own-kinds c) ∙ ap (λ w. kinds (named commands w [])) one ∙ own-kinds d

pub same-effect : (c d : Command) (t : List ℕ) (n : ℕ) → word c ≡ word d → arguments c ≡ arguments d → effect c t n ≡ effect d t n
same-effect c d t n one same =
    sym (own-effect c t n) ∙ ap (λ w. effect (named commands w (arguments c)) t n) one
    ∙ ap (λ given. effect (named commands (word d) given) t n) same ∙ own-effect d t n
