-- Examples of what is printed of a run. `codes "done"` is the list of the bytes of `"done"`, and 0x0A is the line feed.
use Rattle.std.proofs.Common.{◌≡◌, ℕ, List, [], ◌∷◌, ◌++◌, map, refl, Bor, codes, encode_utf8_all}
use Rattle.std.specs.Char.{encode_utf8}
use Rattle.std.specs.Fmt.{digits}
use Rattle.std.specs.Str.{chars}
use Rattle.arraystring.specs.Refusals.{OutOfBounds, Utf8, Utf16}
use Rattle.arraystring.specs.Text.{width, utf8}
use Rattle.arraystring_run.specs.Printing.{reply_line, replies_printed, replies_and_final_line, run_printed}
use Rattle.arraystring_run.specs.Effects.{Done, Char, NoChar, Text, NoText, Number, Refused}
use Rattle.arraystring_run.specs.declared.commands.Command.TheVariants as command

reply_line-done : reply_line Done ≡ codes "done"
reply_line-done = refl

-- C3 A9 is the UTF-8 of `é`
reply_line-char : reply_line (Char 0xE9) ≡ codes "char " ++ 0xC3 ∷ 0xA9 ∷ []
unfolding utf8
reply_line-char = refl

reply_line-no_char : reply_line NoChar ≡ codes "no char"
reply_line-no_char = refl

reply_line-text : reply_line (Text (codes "aé")) ≡ codes "text a" ++ 0xC3 ∷ 0xA9 ∷ []
unfolding utf8
reply_line-text = refl

reply_line-empty_text : reply_line (Text []) ≡ codes "text "
reply_line-empty_text = refl

reply_line-no_text : reply_line NoText ≡ codes "no text"
reply_line-no_text = refl

reply_line-number : map (λ n. reply_line (Number n)) (0 ∷ 7 ∷ 10 ∷ 255 ∷ [])
    ≡ codes "number 0" ∷ codes "number 7" ∷ codes "number 10" ∷ codes "number 255" ∷ []
unfolding digits
reply_line-number = refl

reply_line-refused : map (λ e. reply_line (Refused e)) (OutOfBounds ∷ Utf8 ∷ Utf16 ∷ [])
    ≡ codes "refused OutOfBounds" ∷ codes "refused Utf8" ∷ codes "refused Utf16" ∷ []
reply_line-refused = refl

replies_printed-none : replies_printed [] ≡ []
replies_printed-none = refl

replies_printed-in_order : replies_printed (Done ∷ NoChar ∷ []) ≡ codes "done" ++ 0x0A ∷ codes "no char" ++ 0x0A ∷ []
replies_printed-in_order = refl

replies_and_final_line-no_reply : replies_and_final_line [] (codes "aé") ≡ codes "final a" ++ 0xC3 ∷ 0xA9 ∷ 0x0A ∷ []
unfolding utf8
replies_and_final_line-no_reply = refl

replies_and_final_line-replies_first : replies_and_final_line (Done ∷ []) [] ≡ codes "done" ++ 0x0A ∷ codes "final " ++ 0x0A ∷ []
replies_and_final_line-replies_first = refl

run_printed-no_command : run_printed [] 23 ≡ codes "final " ++ 0x0A ∷ []
run_printed-no_command = refl

run_printed-at_a_capacity : run_printed (command.Capacity ∷ []) 255 ≡ codes "number 255" ++ 0x0A ∷ codes "final " ++ 0x0A ∷ []
unfolding digits
run_printed-at_a_capacity = refl

-- a `&str` with this text
abbrev str : List ℕ → Bor (List ℕ)
str t = record { ref_ptr = (0, 0); now = encode_utf8_all t }

-- the text is `ABCD🤔`, `AABCD🤔`, `AABBCD🤔` and then `AABB`; F0 9F A4 94 is the UTF-8 of `🤔`
run_printed-of_seven_commands : run_printed (
    command.PushStr (str (codes "ABCD🤔")) ∷ command.TryInsert 1 0x41 ∷ command.TryInsertStr 2 (str (codes "B")) ∷ command.DrainBack 4 10
    ∷ command.Get 0 9 ∷ command.Remove 9 ∷ command.AsStr ∷ []
    ) 23
    ≡ codes "done" ++ 0x0A ∷ codes "done" ++ 0x0A ∷ codes "done" ++ 0x0A ∷ codes "text " ++ 0xF0 ∷ 0x9F ∷ 0xA4 ∷ 0x94 ∷ codes "DC" ++ 0x0A
    ∷ codes "no text" ++ 0x0A ∷ codes "refused OutOfBounds" ++ 0x0A ∷ codes "text AABB" ++ 0x0A ∷ codes "final AABB" ++ 0x0A ∷ []
unfolding width utf8 chars encode_utf8
run_printed-of_seven_commands = refl
