-- Examples of the lines of a script. `codes "len"` is the list of the bytes of `"len"`, and 0x0A is the line feed.
use Rattle.std.proofs.Common.{◌≡◌, ℕ, List, [], ◌∷◌, ◌++◌, length, refl, arith, codes, ◌+◌}
use Rattle.arraystring_run.specs.CommandLines.{IsLineOf}
use Rattle.arraystring_run.specs.LinesOfScripts.{line_feed, with_newline, joined_terminated_lines, HasNoLineFeed, HaveNoLineFeeds, prepend_to_first_line, lines, AreLinesOfCommands, IsBadAt}
use Rattle.arraystring_run.specs.declared.commands.Command.{Command}
use Rattle.arraystring_run.specs.declared.commands.Command.TheVariants as command

line_feed-is_0A : line_feed ≡ 0x0A
line_feed-is_0A = refl

with_newline-at_the_end : with_newline (codes "len") ≡ codes "len" ++ 0x0A ∷ []
with_newline-at_the_end = refl

joined_terminated_lines-none : joined_terminated_lines [] ≡ []
joined_terminated_lines-none = refl

joined_terminated_lines-in_order : joined_terminated_lines (codes "len" ∷ [] ∷ codes "pop" ∷ []) ≡ codes "len" ++ 0x0A ∷ 0x0A ∷ codes "pop" ++ 0x0A ∷ []
joined_terminated_lines-in_order = refl

HasNoLineFeed-empty : HasNoLineFeed []
HasNoLineFeed-empty = tt

-- 0x0D is no line feed
HasNoLineFeed-carriage_return : HasNoLineFeed (0x61 ∷ 0x0D ∷ [])
HasNoLineFeed-carriage_return = omega arith

HasNoLineFeed-line_feed_at_the_end : HasNoLineFeed (0x61 ∷ 0x0A ∷ []) → ⊥
HasNoLineFeed-line_feed_at_the_end is = is.1.0 refl

HaveNoLineFeeds-none : HaveNoLineFeeds []
HaveNoLineFeeds-none = tt

HaveNoLineFeeds-two : HaveNoLineFeeds (codes "len" ∷ [] ∷ [])
HaveNoLineFeeds-two = omega arith

HaveNoLineFeeds-the_first_is_two : HaveNoLineFeeds ((0x61 ∷ 0x0A ∷ []) ∷ []) → ⊥
HaveNoLineFeeds-the_first_is_two are = are.0.1.0 refl

HaveNoLineFeeds-the_second_is_two : HaveNoLineFeeds ([] ∷ (0x0A ∷ []) ∷ []) → ⊥
HaveNoLineFeeds-the_second_is_two are = are.1.0.0 refl

prepend_to_first_line-of_no_line : prepend_to_first_line 0x61 [] ≡ (0x61 ∷ []) ∷ []
prepend_to_first_line-of_no_line = refl

prepend_to_first_line-of_two_lines : prepend_to_first_line 0x61 (codes "b" ∷ codes "c" ∷ []) ≡ codes "ab" ∷ codes "c" ∷ []
prepend_to_first_line-of_two_lines = refl

lines-empty_input : lines [] ≡ []
lines-empty_input = refl

lines-one_that_lacks_its_line_feed : lines (codes "len") ≡ codes "len" ∷ []
lines-one_that_lacks_its_line_feed = refl

lines-one : lines (codes "len" ++ 0x0A ∷ []) ≡ codes "len" ∷ []
lines-one = refl

lines-line_feed_alone : lines (0x0A ∷ []) ≡ [] ∷ []
lines-line_feed_alone = refl

lines-empty_line_between : lines (codes "len" ++ 0x0A ∷ 0x0A ∷ codes "pop") ≡ codes "len" ∷ [] ∷ codes "pop" ∷ []
lines-empty_line_between = refl

lines-carriage_return : lines (codes "len" ++ 0x0D ∷ 0x0A ∷ codes "pop") ≡ (codes "len" ++ 0x0D ∷ []) ∷ codes "pop" ∷ []
lines-carriage_return = refl

AreLinesOfCommands-none : AreLinesOfCommands [] []
AreLinesOfCommands-none = tt

AreLinesOfCommands-each : AreLinesOfCommands (codes "len" ∷ codes "pop" ∷ []) (command.Len ∷ command.Pop ∷ [])
AreLinesOfCommands-each = (([], refl, refl), (([], refl, refl), tt))

AreLinesOfCommands-another_order : AreLinesOfCommands (codes "len" ∷ codes "pop" ∷ []) (command.Pop ∷ command.Len ∷ []) → ⊥
AreLinesOfCommands-another_order ((rest, e, none), others) = grind arith

AreLinesOfCommands-the_last_is_another : AreLinesOfCommands (codes "len" ∷ codes "pop" ∷ []) (command.Len ∷ command.Len ∷ []) → ⊥
AreLinesOfCommands-the_last_is_another (first, ((rest, e, none), others)) = grind arith

AreLinesOfCommands-line_without_a_command : AreLinesOfCommands (codes "len" ∷ []) [] → ⊥
AreLinesOfCommands-line_without_a_command are = are

AreLinesOfCommands-command_without_a_line : AreLinesOfCommands [] (command.Len ∷ []) → ⊥
AreLinesOfCommands-command_without_a_line are = are

abbrev one_empty : List (List ℕ)
one_empty = [] ∷ []

abbrev two_empty : List (List ℕ)
two_empty = [] ∷ [] ∷ []

-- an empty line is no command
no_command : (c : Command) → IsLineOf [] c → ⊥
no_command command.Pop (rest, e, spelled) = cc
no_command _ (rest, e, spelled) = cc

IsBadAt-the_first_line : IsBadAt one_empty 1
IsBadAt-the_first_line = record {
  front = [];
  commands = [];
  line = [];
  rest = [];
  whole = refl;
  number = refl;
  before = tt;
  bad = no_command;
}

IsBadAt-the_second_of_three : IsBadAt (codes "len" ∷ [] ∷ codes "pop" ∷ []) 2
IsBadAt-the_second_of_three = record {
  front = codes "len" ∷ [];
  commands = command.Len ∷ [];
  line = [];
  rest = codes "pop" ∷ [];
  whole = refl;
  number = refl;
  before = (([], refl, refl), tt);
  bad = no_command;
}

IsBadAt-no_line : IsBadAt [] 1 → ⊥
IsBadAt-no_line is = go is.front is.whole
  where
    go : (front : List (List ℕ)) → [] ≡ front ++ is.line ∷ is.rest → ⊥
    go [] e = cc
    go (l ∷ front) e = cc

IsBadAt-another_number : IsBadAt one_empty 2 → ⊥
IsBadAt-another_number is = go is.front is.whole is.number
  where
    go : (front : List (List ℕ)) → one_empty ≡ front ++ is.line ∷ is.rest → 2 ≡ length front + 1 → ⊥
    go [] e number = omega arith
    go (l ∷ []) e number = cc
    go (l ∷ m ∷ front) e number = cc

IsBadAt-line_0 : IsBadAt one_empty 0 → ⊥
IsBadAt-line_0 is = let number : 0 ≡ length is.front + 1 = is.number in omega arith

IsBadAt-not_the_first : IsBadAt two_empty 2 → ⊥
IsBadAt-not_the_first is = go is.front is.commands is.whole is.number is.before
  where
    go : (front : List (List ℕ)) (cs : List Command) → two_empty ≡ front ++ is.line ∷ is.rest → 2 ≡ length front + 1
        → AreLinesOfCommands front cs → ⊥
    go [] cs e number are = omega arith
    go ([] ∷ front) [] e number are = are
    go ([] ∷ front) (c ∷ cs) e number are = no_command c are.0
    go ((b ∷ l) ∷ front) cs e number are = cc

IsBadAt-line_of_a_command : IsBadAt (codes "len" ∷ []) 1 → ⊥
IsBadAt-line_of_a_command is = go is.front is.line is.whole is.number is.bad
  where
    go : (front : List (List ℕ)) (line : List ℕ) → codes "len" ∷ [] ≡ front ++ line ∷ is.rest → 1 ≡ length front + 1
        → ((c : Command) → IsLineOf line c → ⊥) → ⊥
    go [] line e number bad = let same : codes "len" ≡ line = cc in bad command.Len ([], cc, refl)
    go (l ∷ front) line e number bad = omega arith
