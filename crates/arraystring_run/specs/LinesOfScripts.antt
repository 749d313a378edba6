-- The bytes of a script are read as lines, and each line has to be the line of a command.
use Rattle.std.specs.Prelude.{◌≡◌, ◌≢◌, ℕ, ◌+◌, ◌==◌, ⊤, length, List, [], ◌∷◌, ◌++◌, if◌then◌else◌}
use Rattle.arraystring_run.specs.CommandLines.{IsLineOf}
use Rattle.arraystring_run.specs.declared.commands.Command.{Command}

-- the byte that ends a line
abbrev pub line_feed : ℕ
line_feed = 0x0A

-- a line with its line feed
abbrev pub with_newline : List ℕ → List ℕ
with_newline bs = bs ++ line_feed ∷ []

-- lines with their line feeds, joined
abbrev pub joined_terminated_lines : List (List ℕ) → List ℕ
joined_terminated_lines [] = []
joined_terminated_lines (line ∷ rest) = with_newline line ++ joined_terminated_lines rest

-- no byte is a line feed, as in one line (an empty list of bytes is one line, too)
abbrev pub HasNoLineFeed : List ℕ → Type 0
HasNoLineFeed [] = ⊤
HasNoLineFeed (b ∷ bs) = (b ≢ line_feed) × HasNoLineFeed bs

-- no line has a line feed
abbrev pub HaveNoLineFeeds : List (List ℕ) → Type 0
HaveNoLineFeeds [] = ⊤
HaveNoLineFeeds (line ∷ rest) = HasNoLineFeed line × HaveNoLineFeeds rest

-- the lines, with the byte b put at the start of the first line. If there is no line, the only line is the byte b
abbrev pub prepend_to_first_line : ℕ → List (List ℕ) → List (List ℕ)
prepend_to_first_line b [] = (b ∷ []) ∷ []
prepend_to_first_line b (line ∷ rest) = (b ∷ line) ∷ rest

-- the lines of an input, without their line feeds (`lines_rejoin_to_input`). The last line may have no line feed in the input. An empty
-- input has no line, and a line feed alone is one empty line
abbrev pub lines : List ℕ → List (List ℕ)
lines [] = []
lines (b ∷ bs) = if b == line_feed then [] ∷ lines bs else prepend_to_first_line b (lines bs)

-- there are as many lines as commands, and each line is the line of the command at the same position (`script_has_one_result`)
abbrev pub AreLinesOfCommands : List (List ℕ) → List Command → Type 0
AreLinesOfCommands [] [] = ⊤
AreLinesOfCommands [] (c ∷ cs) = ⊥
AreLinesOfCommands (line ∷ rest) [] = ⊥
AreLinesOfCommands (line ∷ rest) (c ∷ cs) = IsLineOf line c × AreLinesOfCommands rest cs

-- line k, counted from 1, is the line of no command, and each line before it is that of a command (`first_bad_line_is_unique`)
pub record IsBadAt (all : List (List ℕ)) (k : ℕ) : Type 0 where
  pub front : List (List ℕ)
  pub commands : List Command
  pub line : List ℕ
  pub rest : List (List ℕ)
  pub whole : all ≡ front ++ line ∷ rest
  pub number : k ≡ length front + 1
  pub before : AreLinesOfCommands front commands
  pub bad : (c : Command) → IsLineOf line c → ⊥
