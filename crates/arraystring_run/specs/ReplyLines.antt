-- These definitions say which lines a run of commands prints.
use Rattle.std.specs.Prelude.{ℕ, List, [], ◌∷◌, ◌++◌, codes, decimal}
use Rattle.arraystring.specs.Names.{error_name}
use Rattle.arraystring.specs.Text.{utf8, bytes}
use Rattle.arraystring_run.specs.Effects.{run_result, ReplyView, Done, Char, NoChar, Text, NoText, Number, Refused}
use Rattle.arraystring_run.specs.LinesOfScripts.{with_newline}
use Rattle.arraystring_run.specs.declared.commands.Command.{Command}

-- the line of a reply, without its line feed
abbrev pub reply_line : ReplyView → List ℕ
reply_line Done = codes "done"
reply_line (Char c) = codes "char " ++ utf8 c
reply_line NoChar = codes "no char"
reply_line (Text t) = codes "text " ++ bytes t
reply_line NoText = codes "no text"
reply_line (Number n) = codes "number " ++ decimal n
reply_line (Refused e) = codes "refused " ++ error_name e

-- the lines of replies, each with its line feed
abbrev pub replies_printed : List ReplyView → List ℕ
replies_printed [] = []
replies_printed (r ∷ rs) = with_newline (reply_line r) ++ replies_printed rs

-- the lines of replies, and then the line of the text at the end of the run, each with its line feed
abbrev pub replies_and_final_line : List ReplyView → List ℕ → List ℕ
replies_and_final_line rs t = replies_printed rs ++ with_newline (codes "final " ++ bytes t)

-- the printed lines of a run of these commands, which begins with the empty text, at the capacity n
abbrev pub run_printed : List Command → ℕ → List ℕ
run_printed cs n = let ran = run_result cs [] n in replies_and_final_line ran.replies ran.text
