-- The line of a command is its word, and then its arguments, each after one space.
use Rattle.std.specs.Prelude.{◌≡◌, ◌≢◌, ℕ, ◌+◌, ◌-◌, ◌*◌, ◌≤◌, ⊤, length, List, [], ◌∷◌, ◌++◌, codes, decimal}
use Rattle.arraystring.specs.Text.{utf8, IsScalarValue, IsWellFormed}
use Rattle.arraystring_run.specs.declared.commands.Command.{Command}
use Rattle.arraystring_run.specs.declared.commands.Command.TheVariants as command

-- an argument: a number, a character, or the bytes of a text
pub data Argument : Type 0 where
  Number : ℕ → Argument
  Character : ℕ → Argument
  Text : List ℕ → Argument

-- the word with which the line of a command begins
abbrev pub word : Command → List ℕ
word (command.TryPush c) = codes "try_push"
word (command.TryPushStr given) = codes "try_push_str"
word (command.PushStr given) = codes "push_str"
word command.Pop = codes "pop"
word (command.Truncate i) = codes "truncate"
word command.Trim = codes "trim"
word (command.Remove i) = codes "remove"
word (command.RetainNot c) = codes "retain_not"
word (command.TryInsert i c) = codes "try_insert"
word (command.TryInsertStr i given) = codes "try_insert_str"
word (command.InsertStr i given) = codes "insert_str"
word (command.SplitOff i) = codes "split_off"
word command.Clear = codes "clear"
word (command.Drain start end) = codes "drain"
word (command.DrainThrough start last) = codes "drain_through"
word (command.DrainBack start end) = codes "drain_back"
word (command.ReplaceRange start end given) = codes "replace_range"
word command.Upper = codes "upper"
word command.Lower = codes "lower"
word (command.Get start end) = codes "get"
word command.Len = codes "len"
word command.Capacity = codes "capacity"
word command.AsStr = codes "as_str"

-- the arguments of a command; a character or a text comes last, and is the whole rest of the line
abbrev pub arguments : Command → List Argument
arguments (command.TryPush c) = Character c ∷ []
arguments (command.TryPushStr given) = Text given.now ∷ []
arguments (command.PushStr given) = Text given.now ∷ []
arguments (command.Truncate i) = Number i ∷ []
arguments (command.Remove i) = Number i ∷ []
arguments (command.RetainNot c) = Character c ∷ []
arguments (command.TryInsert i c) = Number i ∷ Character c ∷ []
arguments (command.TryInsertStr i given) = Number i ∷ Text given.now ∷ []
arguments (command.InsertStr i given) = Number i ∷ Text given.now ∷ []
arguments (command.SplitOff i) = Number i ∷ []
arguments (command.Drain start end) = Number start ∷ Number end ∷ []
arguments (command.DrainThrough start last) = Number start ∷ Number last ∷ []
arguments (command.DrainBack start end) = Number start ∷ Number end ∷ []
arguments (command.ReplaceRange start end given) = Number start ∷ Number end ∷ Text given.now ∷ []
arguments (command.Get start end) = Number start ∷ Number end ∷ []
arguments _ = []

-- each byte is an ASCII digit, 0 to 9
abbrev pub AreDigits : List ℕ → Type 0
AreDigits [] = ⊤
AreDigits (b ∷ bs) = (0x30 ≤ b) × (b ≤ 0x39) × AreDigits bs

-- the number whose digits are those of n and then these bytes
abbrev pub number_continued_by : ℕ → List ℕ → ℕ
number_continued_by n [] = n
number_continued_by n (b ∷ bs) = number_continued_by (n * 10 + (b - 0x30)) bs

-- the bytes are one to three digits that write the number n, which is at most 255; leading zeros are allowed
pub record IsNumber (bs : List ℕ) (n : ℕ) : Type 0 where
  pub some : 1 ≤ length bs
  pub short : length bs ≤ 3
  pub digits : AreDigits bs
  pub value : n ≡ number_continued_by 0 bs
  pub small : n ≤ 255

-- the bytes spell an argument: they are the digits of a number, the UTF-8 of a character, or the bytes of a text
abbrev pub SpellsArgument : List ℕ → Argument → Type 0
SpellsArgument bs (Number n) = IsNumber bs n
SpellsArgument bs (Character c) = IsScalarValue c × (bs ≡ utf8 c)
SpellsArgument bs (Text given) = IsWellFormed given × (bs ≡ given)

-- the byte that stands before each argument in the line of a command
abbrev pub space : ℕ
space = 0x20

-- the bytes are one space and the spelling of an argument, for each of the arguments, and nothing else
abbrev pub SpellsArguments : List ℕ → List Argument → Type 0
SpellsArguments bs [] = bs ≡ []
SpellsArguments bs (a ∷ rest) =
    (first : List ℕ) × (others : List ℕ) × (bs ≡ space ∷ (first ++ others)) × SpellsArgument first a × SpellsArguments others rest

-- the bytes are a line of a command: its word, and then its arguments (CALLING.md, Commands)
abbrev pub IsLineOf : List ℕ → Command → Type 0
IsLineOf bs c = (rest : List ℕ) × (bs ≡ word c ++ rest) × SpellsArguments rest (arguments c)

-- the bytes that spell an argument; a number has no leading zeros
abbrev pub spelling_of_argument : Argument → List ℕ
spelling_of_argument (Number n) = decimal n
spelling_of_argument (Character c) = utf8 c
spelling_of_argument (Text given) = given

-- the bytes that spell arguments, each after one space
abbrev pub spelling_of_arguments : List Argument → List ℕ
spelling_of_arguments [] = []
spelling_of_arguments (a ∷ rest) = space ∷ (spelling_of_argument a ++ spelling_of_arguments rest)

-- the line of a command whose numbers have no leading zeros (`each_command_has_a_line`)
abbrev pub line_of : Command → List ℕ
line_of c = word c ++ spelling_of_arguments (arguments c)

-- each number is at most 255, each character a scalar value, each text well formed (a line feed in it is not excluded)
abbrev pub EachArgumentIsValid : List Argument → Type 0
EachArgumentIsValid [] = ⊤
EachArgumentIsValid (Number n ∷ rest) = (n ≤ 255) × EachArgumentIsValid rest
EachArgumentIsValid (Character c ∷ rest) = IsScalarValue c × EachArgumentIsValid rest
EachArgumentIsValid (Text given ∷ rest) = IsWellFormed given × EachArgumentIsValid rest

-- no byte is a space, as in one word (an empty list of bytes is one word, too)
abbrev pub HasNoSpace : List ℕ → Type 0
HasNoSpace [] = ⊤
HasNoSpace (b ∷ bs) = (b ≢ space) × HasNoSpace bs

-- the bytes are the digits of the number n, one space, and then the rest
abbrev pub IsNumberBeforeSpace : List ℕ → ℕ → List ℕ → Type 0
IsNumberBeforeSpace bs n rest = (digits : List ℕ) × IsNumber digits n × (bs ≡ digits ++ space ∷ rest)
