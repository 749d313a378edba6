-- Examples of what commands do, of their replies, and of what is tight. `codes "aé"` is the list of the characters of `"aé"`.
-- 0x61 is `'a'`, 0x78 `'x'` and 0x1F914 `'🤔'`, which takes four bytes of UTF-8, as `'é'` takes two.
use Rattle.std.proofs.Common.{◌≡◌, ℕ, List, [], ◌∷◌, map, replicate, true, false, Some, None, Ok, Err, refl, arith, Bor, codes}
use Rattle.std.specs.Char.{encode_utf8}
use Rattle.std.specs.Str.{chars, encode_utf8_all}
use Rattle.arraystring.specs.Text.{width}
use Rattle.arraystring.specs.WhiteSpace.{is_white_space}
use Rattle.arraystring.specs.Edits.{Past, Room, Inside, addition, insertion, removal}
use Rattle.arraystring.specs.Stored.{view_with_empty_spare}
use Rattle.arraystring.specs.Refusals.{OutOfBounds, Utf8}
use Rattle.arraystring_run.specs.Effects.{Done, Char, NoChar, Text, NoText, Number, Refused, view_of_reply, make_effect, reply_of_result, apply, apply_unit, char_reply, text_reply, without, end_through, effect, is_room, is_refused_for_room, is_accepted, adds_only_part, is_tight, run_result, first_tight_from, first_some, NoneTight, IsFirstTight}
use Rattle.arraystring_run.specs.declared.commands.Command.{Command}
use Rattle.arraystring_run.specs.declared.commands.Command.TheVariants as command
use Rattle.arraystring_run.specs.declared.commands.Reply.TheVariants as reply

-- a `&str` with this text
abbrev str : List ℕ → Bor (List ℕ)
str t = record { ref_ptr = (0, 0); now = encode_utf8_all t }

-- Replies

ReplyView-no_character_is_not_no_text : NoChar ≡ NoText → ⊥
ReplyView-no_character_is_not_no_text e = cc

view_of_reply-string : view_of_reply {N = 5} (reply.Text (view_with_empty_spare (codes "ab"))) ≡ Text (codes "ab")
view_of_reply-string = refl

view_of_reply-others : map {0, 0} (view_of_reply {N = 5}) (
    reply.Done ∷ reply.Char 0x61 ∷ reply.NoChar ∷ reply.NoText ∷ reply.Number 255 ∷ reply.Refused Utf8 ∷ []
    )
    ≡ Done ∷ Char 0x61 ∷ NoChar ∷ NoText ∷ Number 255 ∷ Refused Utf8 ∷ []
view_of_reply-others = refl

reply_of_result-a_value : reply_of_result Char (Ok 0x61) ≡ Char 0x61
reply_of_result-a_value = refl

reply_of_result-an_error : reply_of_result Char (Err Utf8) ≡ Refused Utf8
reply_of_result-an_error = refl

char_reply-some : char_reply (Some 0x61) ≡ Char 0x61
char_reply-some = refl

char_reply-none : char_reply None ≡ NoChar
char_reply-none = refl

text_reply-some : text_reply (Some (codes "ab")) ≡ Text (codes "ab")
text_reply-some = refl

text_reply-none : text_reply None ≡ NoText
text_reply-none = refl

-- The effects of rows of the table of edits

-- an effect is another one if the reply is, or the text
Effect-another_reply : effect command.Pop [] 5 ≡ effect command.Clear [] 5 → ⊥
Effect-another_reply e = grind arith

Effect-another_text : effect command.Upper (codes "a") 5 ≡ effect command.Lower (codes "a") 5 → ⊥
Effect-another_text e = grind arith

make_effect-as_pop_leaves_nothing : make_effect (Char 0x61) [] ≡ effect command.Pop (codes "a") 5
make_effect-as_pop_leaves_nothing = refl

apply-made : apply Char (removal (codes "abc") 1) (codes "abc") ≡ make_effect (Char 0x62) (codes "ac")
unfolding width
apply-made = refl

apply-refused : apply Char (removal (codes "abc") 3) (codes "abc") ≡ make_effect (Refused OutOfBounds) (codes "abc")
unfolding width
apply-refused = refl

apply_unit-made : apply_unit (addition (codes "a") (codes "b") 2) (codes "a") ≡ make_effect Done (codes "ab")
unfolding width
apply_unit-made = refl

apply_unit-refused : apply_unit (addition (codes "a") (codes "b") 1) (codes "a") ≡ make_effect (Refused OutOfBounds) (codes "a")
unfolding width
apply_unit-refused = refl

-- The effect of each command: where it is made, each cause of a refusal, and which comes first

effect-try_push_fills : effect (command.TryPush 0xE9) (codes "aé") 5 ≡ make_effect Done (codes "aéé")
unfolding width
effect-try_push_fills = refl

effect-try_push_lacks_a_byte : effect (command.TryPush 0xE9) (codes "aé") 4 ≡ make_effect (Refused OutOfBounds) (codes "aé")
unfolding width
effect-try_push_lacks_a_byte = refl

effect-try_push_str_fills : effect (command.TryPushStr (str (codes "xé"))) (codes "ab") 5
    ≡ make_effect Done (codes "abxé")
unfolding width chars encode_utf8
effect-try_push_str_fills = refl

effect-try_push_str_lacks_a_byte : effect (command.TryPushStr (str (codes "xé"))) (codes "ab") 4
    ≡ make_effect (Refused OutOfBounds) (codes "ab")
unfolding width chars encode_utf8
effect-try_push_str_lacks_a_byte = refl

effect-try_push_str_nothing_into_no_room : effect (command.TryPushStr (str [])) [] 0 ≡ make_effect Done []
unfolding width chars encode_utf8
effect-try_push_str_nothing_into_no_room = refl

effect-push_str_fills : effect (command.PushStr (str (codes "xé"))) (codes "ab") 5 ≡ make_effect Done (codes "abxé")
unfolding width chars encode_utf8
effect-push_str_fills = refl

effect-push_str_is_cut_before_a_character : effect (command.PushStr (str (codes "xé"))) (codes "ab") 4
    ≡ make_effect Done (codes "abx")
unfolding width chars encode_utf8
effect-push_str_is_cut_before_a_character = refl

effect-pop_takes_the_last : effect command.Pop (codes "A🤔") 23 ≡ make_effect (Char 0x1F914) (codes "A")
effect-pop_takes_the_last = refl

effect-pop_of_nothing : effect command.Pop [] 23 ≡ make_effect NoChar []
effect-pop_of_nothing = refl

effect-truncate_before_a_character : effect (command.Truncate 5) (codes "My String") 23 ≡ make_effect Done (codes "My St")
unfolding width
effect-truncate_before_a_character = refl

effect-truncate_past_the_text : effect (command.Truncate 6) (codes "My St") 23 ≡ make_effect Done (codes "My St")
unfolding width
effect-truncate_past_the_text = refl

effect-truncate_inside : effect (command.Truncate 1) (codes "🤔") 23 ≡ make_effect (Refused Utf8) (codes "🤔")
unfolding width
effect-truncate_inside = refl

-- U+2003 and U+3000 are white space, as U+0020 is
effect-trim_at_both_ends : effect command.Trim (0x2003 ∷ 0x61 ∷ 0x20 ∷ 0x62 ∷ 0x20 ∷ 0x3000 ∷ []) 23 ≡ make_effect Done (codes "a b")
unfolding is_white_space
effect-trim_at_both_ends = refl

-- U+200B is none
effect-trim_keeps_other_characters : effect command.Trim (0x200B ∷ 0x61 ∷ []) 23 ≡ make_effect Done (0x200B ∷ 0x61 ∷ [])
unfolding is_white_space
effect-trim_keeps_other_characters = refl

effect-remove_the_first : effect (command.Remove 0) (codes "ABCD🤔") 8 ≡ make_effect (Char 0x41) (codes "BCD🤔")
unfolding width
effect-remove_the_first = refl

effect-remove_in_the_middle : effect (command.Remove 2) (codes "BCD🤔") 8 ≡ make_effect (Char 0x44) (codes "BC🤔")
unfolding width
effect-remove_in_the_middle = refl

effect-remove_at_the_end : effect (command.Remove 8) (codes "ABCD🤔") 8 ≡ make_effect (Refused OutOfBounds) (codes "ABCD🤔")
unfolding width
effect-remove_at_the_end = refl

effect-remove_past_the_text : effect (command.Remove 10) (codes "ABCD🤔") 8 ≡ make_effect (Refused OutOfBounds) (codes "ABCD🤔")
unfolding width
effect-remove_past_the_text = refl

effect-remove_inside : effect (command.Remove 6) (codes "ABCD🤔") 8 ≡ make_effect (Refused Utf8) (codes "ABCD🤔")
unfolding width
effect-remove_inside = refl

without-each : without 0x61 (codes "abab") ≡ codes "bb"
without-each = refl

effect-retain_not_takes_each : effect (command.RetainNot 0x42) (codes "ABCB🤔") 23 ≡ make_effect Done (codes "AC🤔")
effect-retain_not_takes_each = refl

effect-try_insert_before_a_character : effect (command.TryInsert 4 0x78) (codes "ABCD🤔") 9 ≡ make_effect Done (codes "ABCDx🤔")
unfolding width
effect-try_insert_before_a_character = refl

effect-try_insert_at_the_end : effect (command.TryInsert 8 0x78) (codes "ABCD🤔") 9 ≡ make_effect Done (codes "ABCD🤔x")
unfolding width
effect-try_insert_at_the_end = refl

effect-try_insert_past_the_text : effect (command.TryInsert 9 0x78) (codes "ABCD🤔") 9
    ≡ make_effect (Refused OutOfBounds) (codes "ABCD🤔")
unfolding width
effect-try_insert_past_the_text = refl

effect-try_insert_lacks_a_byte : effect (command.TryInsert 1 0x78) (codes "ABCD🤔") 8
    ≡ make_effect (Refused OutOfBounds) (codes "ABCD🤔")
unfolding width
effect-try_insert_lacks_a_byte = refl

effect-try_insert_inside : effect (command.TryInsert 1 0x78) (codes "🤔") 5 ≡ make_effect (Refused Utf8) (codes "🤔")
unfolding width
effect-try_insert_inside = refl

effect-try_insert_lacks_a_byte_before_it_is_inside : effect (command.TryInsert 1 0x78) (codes "🤔") 4
    ≡ make_effect (Refused OutOfBounds) (codes "🤔")
unfolding width
effect-try_insert_lacks_a_byte_before_it_is_inside = refl

effect-try_insert_str_before_a_character : effect (command.TryInsertStr 1 (str (codes "xy"))) (codes "A🤔") 7
    ≡ make_effect Done (codes "Axy🤔")
unfolding width chars encode_utf8
effect-try_insert_str_before_a_character = refl

effect-try_insert_str_past_the_text : effect (command.TryInsertStr 6 (str (codes "xy"))) (codes "A🤔") 7
    ≡ make_effect (Refused OutOfBounds) (codes "A🤔")
unfolding width chars encode_utf8
effect-try_insert_str_past_the_text = refl

effect-try_insert_str_lacks_a_byte : effect (command.TryInsertStr 1 (str (codes "xy"))) (codes "A🤔") 6
    ≡ make_effect (Refused OutOfBounds) (codes "A🤔")
unfolding width chars encode_utf8
effect-try_insert_str_lacks_a_byte = refl

effect-try_insert_str_inside : effect (command.TryInsertStr 2 (str (codes "xy"))) (codes "A🤔") 7
    ≡ make_effect (Refused Utf8) (codes "A🤔")
unfolding width chars encode_utf8
effect-try_insert_str_inside = refl

effect-try_insert_str_lacks_a_byte_before_it_is_inside : effect (command.TryInsertStr 2 (str (codes "xy"))) (codes "A🤔") 6
    ≡ make_effect (Refused OutOfBounds) (codes "A🤔")
unfolding width chars encode_utf8
effect-try_insert_str_lacks_a_byte_before_it_is_inside = refl

effect-insert_str_fills : effect (command.InsertStr 1 (str (codes "x🤔"))) (codes "AB") 7
    ≡ make_effect Done (codes "Ax🤔B")
unfolding width chars encode_utf8
effect-insert_str_fills = refl

effect-insert_str_is_cut_before_a_character : effect (command.InsertStr 1 (str (codes "x🤔"))) (codes "AB") 6
    ≡ make_effect Done (codes "AxB")
unfolding width chars encode_utf8
effect-insert_str_is_cut_before_a_character = refl

effect-insert_str_past_the_text : effect (command.InsertStr 3 (str (codes "x"))) (codes "AB") 23
    ≡ make_effect (Refused OutOfBounds) (codes "AB")
unfolding width chars encode_utf8
effect-insert_str_past_the_text = refl

effect-insert_str_inside_where_there_is_no_room : effect (command.InsertStr 1 (str (codes "x"))) (codes "🤔") 4
    ≡ make_effect (Refused Utf8) (codes "🤔")
unfolding width chars encode_utf8
effect-insert_str_inside_where_there_is_no_room = refl

effect-split_off_before_a_character : effect (command.SplitOff 6) (codes "AB🤔CD") 23 ≡ make_effect (Text (codes "CD")) (codes "AB🤔")
unfolding width
effect-split_off_before_a_character = refl

effect-split_off_at_the_end : effect (command.SplitOff 6) (codes "AB🤔") 23 ≡ make_effect (Text []) (codes "AB🤔")
unfolding width
effect-split_off_at_the_end = refl

effect-split_off_past_the_text : effect (command.SplitOff 7) (codes "AB🤔") 23 ≡ make_effect (Refused OutOfBounds) (codes "AB🤔")
unfolding width
effect-split_off_past_the_text = refl

effect-split_off_inside : effect (command.SplitOff 4) (codes "AB🤔") 23 ≡ make_effect (Refused Utf8) (codes "AB🤔")
unfolding width
effect-split_off_inside = refl

effect-clear : effect command.Clear (codes "AB🤔") 23 ≡ make_effect Done []
effect-clear = refl

effect-drain_the_front : effect (command.Drain 0 3) (codes "ABCD🤔") 23 ≡ make_effect (Text (codes "ABC")) (codes "D🤔")
unfolding width
effect-drain_the_front = refl

effect-drain_an_empty_range_at_the_end : effect (command.Drain 5 5) (codes "D🤔") 23 ≡ make_effect (Text []) (codes "D🤔")
unfolding width
effect-drain_an_empty_range_at_the_end = refl

effect-drain_past_the_text : effect (command.Drain 0 6) (codes "D🤔") 23 ≡ make_effect (Refused OutOfBounds) (codes "D🤔")
unfolding width
effect-drain_past_the_text = refl

effect-drain_from_inside : effect (command.Drain 3 5) (codes "D🤔") 23 ≡ make_effect (Refused Utf8) (codes "D🤔")
unfolding width
effect-drain_from_inside = refl

effect-drain_to_inside : effect (command.Drain 0 3) (codes "D🤔") 23 ≡ make_effect (Refused Utf8) (codes "D🤔")
unfolding width
effect-drain_to_inside = refl

effect-drain_reversed_before_it_is_inside : effect (command.Drain 3 2) (codes "D🤔") 23 ≡ make_effect (Refused OutOfBounds) (codes "D🤔")
unfolding width
effect-drain_reversed_before_it_is_inside = refl

effect-drain_past_the_text_before_it_is_inside : effect (command.Drain 3 6) (codes "D🤔") 23
    ≡ make_effect (Refused OutOfBounds) (codes "D🤔")
unfolding width
effect-drain_past_the_text_before_it_is_inside = refl

-- the byte at `last` belongs to the range, and 255 is the greatest end
end_through-one_more : (end_through 0 ≡ 1) × (end_through 254 ≡ 255) × (end_through 255 ≡ 255)
end_through-one_more = (refl, refl, refl)

effect-drain_through_the_last_byte : effect (command.DrainThrough 1 4) (codes "D🤔E") 23 ≡ make_effect (Text (codes "🤔")) (codes "DE")
unfolding width
effect-drain_through_the_last_byte = refl

effect-drain_through_inside : effect (command.DrainThrough 1 3) (codes "D🤔E") 23 ≡ make_effect (Refused Utf8) (codes "D🤔E")
unfolding width
effect-drain_through_inside = refl

effect-drain_through_past_the_text : effect (command.DrainThrough 0 6) (codes "D🤔E") 23
    ≡ make_effect (Refused OutOfBounds) (codes "D🤔E")
unfolding width
effect-drain_through_past_the_text = refl

effect-drain_through_255 : effect (command.DrainThrough 0 255) (replicate 255 0x61) 255 ≡ make_effect (Text (replicate 255 0x61)) []
unfolding width
effect-drain_through_255 = refl

effect-drain_back_is_reversed : effect (command.DrainBack 0 3) (codes "ACD🤔") 23 ≡ make_effect (Text (codes "DCA")) (codes "🤔")
unfolding width
effect-drain_back_is_reversed = refl

effect-drain_back_inside : effect (command.DrainBack 0 4) (codes "ACD🤔") 23 ≡ make_effect (Refused Utf8) (codes "ACD🤔")
unfolding width
effect-drain_back_inside = refl

effect-replace_range_by_more : effect (command.ReplaceRange 2 4 (str (codes "EFGHI"))) (codes "ABCD🤔") 23
    ≡ make_effect Done (codes "ABEFGHI🤔")
unfolding width chars encode_utf8
effect-replace_range_by_more = refl

effect-replace_range_all_of_a_full_text : effect (command.ReplaceRange 0 4 (str (codes "wxyz"))) (codes "abcd") 4
    ≡ make_effect Done (codes "wxyz")
unfolding width chars encode_utf8
effect-replace_range_all_of_a_full_text = refl

effect-replace_range_lacks_a_byte : effect (command.ReplaceRange 1 2 (str (codes "xy"))) (codes "abcd") 4
    ≡ make_effect (Refused OutOfBounds) (codes "abcd")
unfolding width chars encode_utf8
effect-replace_range_lacks_a_byte = refl

effect-replace_range_past_the_text : effect (command.ReplaceRange 0 90 (str (codes "K"))) (codes "ABCD🤔") 23
    ≡ make_effect (Refused OutOfBounds) (codes "ABCD🤔")
unfolding width chars encode_utf8
effect-replace_range_past_the_text = refl

effect-replace_range_from_inside : effect (command.ReplaceRange 1 4 (str (codes "xy"))) (codes "🤔") 4
    ≡ make_effect (Refused Utf8) (codes "🤔")
unfolding width chars encode_utf8
effect-replace_range_from_inside = refl

effect-replace_range_to_inside : effect (command.ReplaceRange 0 1 (str [])) (codes "🤔") 4 ≡ make_effect (Refused Utf8) (codes "🤔")
unfolding width chars encode_utf8
effect-replace_range_to_inside = refl

effect-replace_range_reversed_before_it_is_inside : effect (command.ReplaceRange 3 2 (str [])) (codes "🤔") 4
    ≡ make_effect (Refused OutOfBounds) (codes "🤔")
unfolding width chars encode_utf8
effect-replace_range_reversed_before_it_is_inside = refl

effect-replace_range_past_the_text_before_it_is_inside : effect (command.ReplaceRange 1 5 (str [])) (codes "🤔") 4
    ≡ make_effect (Refused OutOfBounds) (codes "🤔")
unfolding width chars encode_utf8
effect-replace_range_past_the_text_before_it_is_inside = refl

effect-replace_range_lacks_a_byte_before_it_is_inside : effect (command.ReplaceRange 1 1 (str (codes "x"))) (codes "🤔") 4
    ≡ make_effect (Refused OutOfBounds) (codes "🤔")
unfolding width chars encode_utf8
effect-replace_range_lacks_a_byte_before_it_is_inside = refl

effect-upper : effect command.Upper (codes "aBéz") 23 ≡ make_effect Done (codes "ABéZ")
effect-upper = refl

effect-lower : effect command.Lower (codes "aBÉZ") 23 ≡ make_effect Done (codes "abÉz")
effect-lower = refl

effect-get_a_part : effect (command.Get 3 7) (codes "ACD🤔") 23 ≡ make_effect (Text (codes "🤔")) (codes "ACD🤔")
unfolding width
effect-get_a_part = refl

effect-get_from_inside : effect (command.Get 4 7) (codes "ACD🤔") 23 ≡ make_effect NoText (codes "ACD🤔")
unfolding width
effect-get_from_inside = refl

effect-get_past_the_text : effect (command.Get 3 8) (codes "ACD🤔") 23 ≡ make_effect NoText (codes "ACD🤔")
unfolding width
effect-get_past_the_text = refl

effect-get_reversed : effect (command.Get 2 1) (codes "ACD🤔") 23 ≡ make_effect NoText (codes "ACD🤔")
unfolding width
effect-get_reversed = refl

effect-len_counts_bytes : effect command.Len (codes "aé") 23 ≡ make_effect (Number 3) (codes "aé")
unfolding width
effect-len_counts_bytes = refl

effect-capacity : effect command.Capacity (codes "aé") 23 ≡ make_effect (Number 23) (codes "aé")
effect-capacity = refl

effect-as_str : effect command.AsStr (codes "aé") 23 ≡ make_effect (Text (codes "aé")) (codes "aé")
effect-as_str = refl

-- What is tight: a command that is refused for `Room`, or adds less than all of its text

is_room-each_cause : (is_room None ≡ false) × (is_room (Some Past) ≡ false) × (is_room (Some Room) ≡ true)
    × (is_room (Some Inside) ≡ false)
is_room-each_cause = (refl, refl, refl, refl)

is_refused_for_room-made : is_refused_for_room (addition (codes "aé") (codes "x") 4) ≡ false
unfolding width
is_refused_for_room-made = refl

is_refused_for_room-lacks_a_byte : is_refused_for_room (addition (codes "aé") (codes "x") 3) ≡ true
unfolding width
is_refused_for_room-lacks_a_byte = refl

is_refused_for_room-first_cause_is_another : is_refused_for_room (insertion (codes "aé") 4 (codes "x") 3) ≡ false
unfolding width
is_refused_for_room-first_cause_is_another = refl

is_accepted-made : is_accepted (insertion (codes "aé") 1 (codes "x") 4) ≡ true
unfolding width
is_accepted-made = refl

is_accepted-refused : is_accepted (insertion (codes "aé") 2 (codes "x") 4) ≡ false
unfolding width
is_accepted-refused = refl

adds_only_part-fits : adds_only_part (codes "a") (codes "bé") 4 ≡ false
unfolding width
adds_only_part-fits = refl

adds_only_part-lacks_a_byte : adds_only_part (codes "a") (codes "bé") 3 ≡ true
unfolding width
adds_only_part-lacks_a_byte = refl

adds_only_part-nothing_into_no_room : adds_only_part (codes "a") [] 1 ≡ false
unfolding width
adds_only_part-nothing_into_no_room = refl

is_tight-try_push : (is_tight (command.TryPush 0xE9) (codes "aé") 5 ≡ false) × (is_tight (command.TryPush 0xE9) (codes "aé") 4 ≡ true)
unfolding width
is_tight-try_push = (refl, refl)

-- the first capacity has room, and the second lacks a byte
is_tight-try_push_str : map (is_tight (command.TryPushStr (str (codes "xy"))) (codes "aé")) (5 ∷ 4 ∷ []) ≡ false ∷ true ∷ []
unfolding width chars encode_utf8
is_tight-try_push_str = refl

is_tight-push_str : map (is_tight (command.PushStr (str (codes "xy"))) (codes "aé")) (5 ∷ 4 ∷ []) ≡ false ∷ true ∷ []
unfolding width chars encode_utf8
is_tight-push_str = refl

-- index 2 is inside `é`, and 4 is past the text
is_tight-try_insert : map (is_tight (command.TryInsert 1 0x78) (codes "aé")) (4 ∷ 3 ∷ []) ≡ false ∷ true ∷ []
unfolding width
is_tight-try_insert = refl

is_tight-try_insert_inside_where_it_lacks_room : map (is_tight (command.TryInsert 2 0x78) (codes "aé")) (4 ∷ 3 ∷ []) ≡ false ∷ true ∷ []
unfolding width
is_tight-try_insert_inside_where_it_lacks_room = refl

is_tight-try_insert_past_is_not : map (is_tight (command.TryInsert 4 0x78) (codes "aé")) (4 ∷ 3 ∷ []) ≡ false ∷ false ∷ []
unfolding width
is_tight-try_insert_past_is_not = refl

is_tight-try_insert_str : map (is_tight (command.TryInsertStr 1 (str (codes "xy"))) (codes "aé")) (5 ∷ 4 ∷ []) ≡ false ∷ true ∷ []
unfolding width chars encode_utf8
is_tight-try_insert_str = refl

is_tight-try_insert_str_inside_where_it_lacks_room : map (is_tight (command.TryInsertStr 2 (str (codes "xy"))) (codes "aé")) (5 ∷ 4 ∷ [])
    ≡ false ∷ true ∷ []
unfolding width chars encode_utf8
is_tight-try_insert_str_inside_where_it_lacks_room = refl

is_tight-try_insert_str_past_is_not : map (is_tight (command.TryInsertStr 4 (str (codes "xy"))) (codes "aé")) (5 ∷ 4 ∷ [])
    ≡ false ∷ false ∷ []
unfolding width chars encode_utf8
is_tight-try_insert_str_past_is_not = refl

is_tight-insert_str : map (is_tight (command.InsertStr 1 (str (codes "xy"))) (codes "aé")) (5 ∷ 4 ∷ []) ≡ false ∷ true ∷ []
unfolding width chars encode_utf8
is_tight-insert_str = refl

is_tight-insert_str_inside_is_not : map (is_tight (command.InsertStr 2 (str (codes "xy"))) (codes "aé")) (5 ∷ 4 ∷ []) ≡ false ∷ false ∷ []
unfolding width chars encode_utf8
is_tight-insert_str_inside_is_not = refl

is_tight-insert_str_past_is_not : map (is_tight (command.InsertStr 4 (str (codes "xy"))) (codes "aé")) (5 ∷ 4 ∷ []) ≡ false ∷ false ∷ []
unfolding width chars encode_utf8
is_tight-insert_str_past_is_not = refl

is_tight-replace_range : map (is_tight (command.ReplaceRange 0 1 (str (codes "xy"))) (codes "aé")) (4 ∷ 3 ∷ []) ≡ false ∷ true ∷ []
unfolding width chars encode_utf8
is_tight-replace_range = refl

is_tight-replace_range_inside_where_it_lacks_room : map (is_tight (command.ReplaceRange 2 3 (str (codes "xy"))) (codes "aé")) (4 ∷ 3 ∷ [])
    ≡ false ∷ true ∷ []
unfolding width chars encode_utf8
is_tight-replace_range_inside_where_it_lacks_room = refl

is_tight-replace_range_reversed_is_not : map (is_tight (command.ReplaceRange 1 0 (str (codes "xy"))) (codes "aé")) (5 ∷ 4 ∷ [])
    ≡ false ∷ false ∷ []
unfolding width chars encode_utf8
is_tight-replace_range_reversed_is_not = refl

is_tight-replace_range_past_is_not : map (is_tight (command.ReplaceRange 4 4 (str (codes "xy"))) (codes "aé")) (5 ∷ 4 ∷ [])
    ≡ false ∷ false ∷ []
unfolding width chars encode_utf8
is_tight-replace_range_past_is_not = refl

-- the others never are, also where they are refused
is_tight-no_other : map (λ c. is_tight c (codes "🤔") 4) (
    command.Pop ∷ command.Truncate 1 ∷ command.Trim ∷ command.Remove 4 ∷ command.RetainNot 0x61 ∷ command.SplitOff 5 ∷ command.Clear
    ∷ command.Drain 0 5 ∷ command.DrainThrough 0 5 ∷ command.DrainBack 0 5 ∷ command.Upper ∷ command.Lower ∷ command.Get 0 5 ∷ command.Len
    ∷ command.Capacity ∷ command.AsStr ∷ []
    )
    ≡ replicate 16 false
is_tight-no_other = refl

-- Runs

-- a run has another result if a reply is another, or the last text
RepliesAndText-another_reply : run_result (command.Pop ∷ []) [] 5 ≡ run_result (command.Clear ∷ []) [] 5 → ⊥
RepliesAndText-another_reply e = grind arith

RepliesAndText-another_text : run_result (command.Upper ∷ []) (codes "a") 5 ≡ run_result (command.Lower ∷ []) (codes "a") 5 → ⊥
RepliesAndText-another_text e = grind arith

run_result-no_command : run_result [] (codes "ab") 5 ≡ record { replies = []; text = codes "ab" }
run_result-no_command = refl

run_result-two_commands : run_result (command.Len ∷ command.Pop ∷ []) (codes "a") 5 ≡ record { replies = Number 1 ∷ Char 0x61 ∷ []; text = [] }
unfolding width
run_result-two_commands = refl

-- a text of eight bytes is pushed, and then a character is inserted that needs a ninth
abbrev pushes : List Command
pushes = command.PushStr (str (codes "ABCD🤔")) ∷ command.TryInsert 1 0x41 ∷ []

run_result-with_room : run_result pushes [] 23 ≡ record { replies = Done ∷ Done ∷ []; text = codes "AABCD🤔" }
unfolding width chars encode_utf8
run_result-with_room = refl

run_result-without_room : run_result pushes [] 8 ≡ record { replies = Done ∷ Refused OutOfBounds ∷ []; text = codes "ABCD🤔" }
unfolding width chars encode_utf8
run_result-without_room = refl

-- of `a🤔b` the `b` does not fit
abbrev ten : List Command
ten =
    command.PushStr (str (codes "a🤔b")) ∷ command.TryPush 0x78 ∷ command.Pop ∷ command.TryPush 0xE9
    ∷ command.Len ∷ command.Capacity ∷ command.AsStr ∷ command.Pop ∷ command.Pop ∷ command.Pop ∷ []

run_result-ten_commands : run_result ten [] 5 ≡ record {
  replies =
      Done ∷ Refused OutOfBounds ∷ Char 0x1F914 ∷ Done ∷ Number 3 ∷ Number 5 ∷ Text (codes "aé") ∷ Char 0xE9 ∷ Char 0x61 ∷ NoChar ∷ [];
  text = [];
}
unfolding width chars encode_utf8
run_result-ten_commands = refl

-- a character of two bytes does not fit into one
first_tight_from-after_a_pop : first_tight_from 0 (command.Pop ∷ command.TryPush 0xE9 ∷ []) (codes "a") 1 ≡ Some 1
unfolding width
first_tight_from-after_a_pop = refl

first_tight_from-none : first_tight_from 0 pushes [] 23 ≡ None
unfolding width chars encode_utf8
first_tight_from-none = refl

first_tight_from-the_second : first_tight_from 0 pushes [] 8 ≡ Some 1
unfolding width chars encode_utf8
first_tight_from-the_second = refl

first_tight_from-the_first_of_two : first_tight_from 0 ten [] 5 ≡ Some 0
unfolding width chars encode_utf8
first_tight_from-the_first_of_two = refl

first_tight_from-counts_on : first_tight_from 5 pushes [] 8 ≡ Some 6
unfolding width chars encode_utf8
first_tight_from-counts_on = refl

first_some-the_first : first_some (Some 2) (Some 1) ≡ Some 2
first_some-the_first = refl

first_some-the_next : first_some None (Some 1) ≡ Some 1
first_some-the_next = refl

first_some-none : first_some None None ≡ None
first_some-none = refl

NoneTight-of_no_command : NoneTight [] [] 0
NoneTight-of_no_command [] c later e = absurd (cc)
NoneTight-of_no_command (b ∷ before) c later e = absurd (cc)

-- `x` fits into the text that `pop` leaves, and not into the first text
NoneTight-on_the_text_before : NoneTight (command.Pop ∷ command.TryPush 0x78 ∷ []) (codes "a") 1
unfolding width
NoneTight-on_the_text_before [] c later e = grind arith
NoneTight-on_the_text_before (b ∷ []) c later e = grind arith
NoneTight-on_the_text_before (b ∷ d ∷ []) c later e = absurd (cc)
NoneTight-on_the_text_before (b ∷ d ∷ f ∷ before) c later e = absurd (cc)

NoneTight-the_first_is : NoneTight (command.TryPush 0x78 ∷ command.Pop ∷ []) (codes "a") 1 → ⊥
unfolding width
NoneTight-the_first_is none = let e : true ≡ false = none [] (command.TryPush 0x78) (command.Pop ∷ []) refl in cc

NoneTight-the_last_is : NoneTight pushes [] 8 → ⊥
unfolding width chars encode_utf8
NoneTight-the_last_is none =
    let e : true ≡ false = none (command.PushStr (str (codes "ABCD🤔")) ∷ []) (command.TryInsert 1 0x41) [] refl in cc

-- the push fits, and the insertion after it does not
IsFirstTight-the_second : IsFirstTight pushes [] 8 1
unfolding width chars encode_utf8
IsFirstTight-the_second =
    (command.PushStr (str (codes "ABCD🤔")) ∷ [], command.TryInsert 1 0x41, [], refl, refl, refl, none)
  where
    none : NoneTight (command.PushStr (str (codes "ABCD🤔")) ∷ []) [] 8
    none [] c later e = grind arith
    none (b ∷ []) c later e = absurd (cc)
    none (b ∷ d ∷ before) c later e = absurd (cc)

IsFirstTight-after_a_pop : IsFirstTight (command.Pop ∷ command.TryPush 0xE9 ∷ []) (codes "a") 1 1
unfolding width
IsFirstTight-after_a_pop = (command.Pop ∷ [], command.TryPush 0xE9, [], refl, refl, refl, none)
  where
    none : NoneTight (command.Pop ∷ []) (codes "a") 1
    none [] c later e = grind arith
    none (b ∷ []) c later e = absurd (cc)
    none (b ∷ d ∷ before) c later e = absurd (cc)

IsFirstTight-no_command_is_there : IsFirstTight [] (codes "a") 1 0 → ⊥
IsFirstTight-no_command_is_there ([], c, later, whole, position, tight, none) = cc
IsFirstTight-no_command_is_there (b ∷ before, c, later, whole, position, tight, none) = cc

IsFirstTight-another_position : IsFirstTight (command.TryPush 0x78 ∷ []) (codes "a") 1 1 → ⊥
IsFirstTight-another_position ([], c, later, whole, position, tight, none) = omega arith
IsFirstTight-another_position (b ∷ [], c, later, whole, position, tight, none) = cc
IsFirstTight-another_position (b ∷ d ∷ before, c, later, whole, position, tight, none) = cc

IsFirstTight-not_tight : IsFirstTight (command.Pop ∷ []) (codes "a") 1 0 → ⊥
IsFirstTight-not_tight ([], c, later, whole, position, tight, none) = grind arith
IsFirstTight-not_tight (b ∷ before, c, later, whole, position, tight, none) = omega arith

IsFirstTight-not_the_first : IsFirstTight (command.TryPush 0x78 ∷ command.TryPush 0x79 ∷ []) (codes "a") 1 1 → ⊥
unfolding width
IsFirstTight-not_the_first ([], c, later, whole, position, tight, none) = omega arith
IsFirstTight-not_the_first (b ∷ [], c, later, whole, position, tight, none) =
    let e : is_tight b (codes "a") 1 ≡ false = none [] b [] refl in grind arith
IsFirstTight-not_the_first (b ∷ d ∷ before, c, later, whole, position, tight, none) = omega arith
