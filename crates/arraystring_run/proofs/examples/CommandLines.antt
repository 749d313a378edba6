-- Examples of lines: of each command, of each spelling of an argument, and of what is no line. `codes "len"` is the list of the
-- characters of `"len"`. They are its bytes, since they are ASCII. C3 A9 is the UTF-8 of `'é'`, U+E9.
use Rattle.std.proofs.Common.{◌≡◌, ℕ, ◌&&◌, Bool, true, false, true≢false, inl, inr, List, [], ◌∷◌, ◌++◌, map, drop, sym, ap, ◌∙◌, append-nil, subst, refl, arith, Bor, codes, lit≤, lit<, nat_eq}
use Rattle.std.specs.Fmt.{digits}
use Rattle.arraystring.specs.Text.{utf8}
use Rattle.arraystring_run.specs.CommandLines.{Argument, Number, Character, Text, word, arguments, AreDigits, number_continued_by, IsNumber, SpellsArgument, space, SpellsArguments, IsLineOf, spelling_of_argument, spelling_of_arguments, line_of, EachArgumentIsValid, HasNoSpace, IsNumberBeforeSpace}
use Rattle.arraystring_run.specs.declared.commands.Command.{Command}
use Rattle.arraystring_run.specs.declared.commands.Command.TheVariants as command

-- a `&str` with these bytes
abbrev str : List ℕ → Bor (List ℕ)
str bs = record { ref_ptr = (0, 0); now = bs }

-- a command of each kind
abbrev each : List Command
each =
    command.TryPush 0xE9 ∷ command.TryPushStr (str (codes "ab")) ∷ command.PushStr (str []) ∷ command.Pop ∷ command.Truncate 7
    ∷ command.Trim ∷ command.Remove 0 ∷ command.RetainNot 0x61 ∷ command.TryInsert 1 0x62 ∷ command.TryInsertStr 2 (str (codes "c d"))
    ∷ command.InsertStr 0 (str (codes " x")) ∷ command.SplitOff 255 ∷ command.Clear ∷ command.Drain 4 10 ∷ command.DrainThrough 5 11
    ∷ command.DrainBack 6 12 ∷ command.ReplaceRange 1 3 (str (codes "ef")) ∷ command.Upper ∷ command.Lower ∷ command.Get 0 9 ∷ command.Len
    ∷ command.Capacity ∷ command.AsStr ∷ []

word-of_each : map word each
    ≡ codes "try_push" ∷ codes "try_push_str" ∷ codes "push_str" ∷ codes "pop" ∷ codes "truncate" ∷ codes "trim" ∷ codes "remove"
    ∷ codes "retain_not" ∷ codes "try_insert" ∷ codes "try_insert_str" ∷ codes "insert_str" ∷ codes "split_off" ∷ codes "clear"
    ∷ codes "drain" ∷ codes "drain_through" ∷ codes "drain_back" ∷ codes "replace_range" ∷ codes "upper" ∷ codes "lower" ∷ codes "get"
    ∷ codes "len" ∷ codes "capacity" ∷ codes "as_str" ∷ []
word-of_each = refl

Argument-number_is_no_character : Number 0x61 ≡ Character 0x61 → ⊥
Argument-number_is_no_character e = cc

arguments-of_each : map arguments each
    ≡ (Character 0xE9 ∷ []) ∷ (Text (codes "ab") ∷ []) ∷ (Text [] ∷ []) ∷ [] ∷ (Number 7 ∷ []) ∷ [] ∷ (Number 0 ∷ [])
    ∷ (Character 0x61 ∷ []) ∷ (Number 1 ∷ Character 0x62 ∷ []) ∷ (Number 2 ∷ Text (codes "c d") ∷ []) ∷ (Number 0 ∷ Text (codes " x") ∷ [])
    ∷ (Number 255 ∷ []) ∷ [] ∷ (Number 4 ∷ Number 10 ∷ []) ∷ (Number 5 ∷ Number 11 ∷ []) ∷ (Number 6 ∷ Number 12 ∷ [])
    ∷ (Number 1 ∷ Number 3 ∷ Text (codes "ef") ∷ []) ∷ [] ∷ [] ∷ (Number 0 ∷ Number 9 ∷ []) ∷ [] ∷ [] ∷ [] ∷ []
arguments-of_each = refl

-- Numbers

AreDigits-all_ten : AreDigits (codes "0123456789")
AreDigits-all_ten = omega arith

-- `/` comes before `0`, and `:` after `9`
AreDigits-before_them : AreDigits (codes "/") → ⊥
AreDigits-before_them are = omega arith

AreDigits-behind_them : AreDigits (codes "1:") → ⊥
AreDigits-behind_them are = omega arith

number_continued_by-leading_zeros : number_continued_by 0 (codes "007") ≡ 7
number_continued_by-leading_zeros = refl

number_continued_by-goes_on : number_continued_by 12 (codes "34") ≡ 1234
number_continued_by-goes_on = refl

IsNumber-one_digit : IsNumber (codes "0") 0
IsNumber-one_digit = omega arith

IsNumber-leading_zeros : IsNumber (codes "007") 7
IsNumber-leading_zeros = omega arith

IsNumber-255 : IsNumber (codes "255") 255
IsNumber-255 = omega arith

IsNumber-256 : IsNumber (codes "256") 256 → ⊥
IsNumber-256 is = omega arith

IsNumber-no_digit : IsNumber [] 0 → ⊥
IsNumber-no_digit is = omega arith

IsNumber-four_digits : IsNumber (codes "0001") 1 → ⊥
IsNumber-four_digits is = omega arith

-- the sign would be the digit 0
IsNumber-sign : IsNumber (codes "+1") 1 → ⊥
IsNumber-sign is = omega arith

IsNumber-another_value : IsNumber (codes "7") 8 → ⊥
IsNumber-another_value is = omega arith

-- Arguments

SpellsArgument-number : SpellsArgument (codes "007") (Number 7)
SpellsArgument-number = omega arith

SpellsArgument-another_number : SpellsArgument (codes "007") (Number 8) → ⊥
SpellsArgument-another_number is = omega arith

SpellsArgument-character : SpellsArgument (0xC3 ∷ 0xA9 ∷ []) (Character 0xE9)
unfolding utf8
SpellsArgument-character = (inl (lit< tt), refl)

SpellsArgument-character_in_one_byte : SpellsArgument (0xE9 ∷ []) (Character 0xE9) → ⊥
unfolding utf8
SpellsArgument-character_in_one_byte (is, e) = grind arith

-- ED A0 80 would be the UTF-8 of the surrogate D800
SpellsArgument-surrogate : SpellsArgument (0xED ∷ 0xA0 ∷ 0x80 ∷ []) (Character 0xD800) → ⊥
SpellsArgument-surrogate (inl low, e) = omega arith
SpellsArgument-surrogate (inr high, e) = omega arith

SpellsArgument-text : SpellsArgument (0x20 ∷ 0xC3 ∷ 0xA9 ∷ []) (Text (0x20 ∷ 0xC3 ∷ 0xA9 ∷ []))
unfolding utf8
SpellsArgument-text = ((codes " é", ((inl (lit< tt), (inl (lit< tt), tt)), refl)), refl)

SpellsArgument-another_text : SpellsArgument (codes "a") (Text (codes "b")) → ⊥
SpellsArgument-another_text (is, e) = grind arith

SpellsArgument-text_that_is_no_utf8 : SpellsArgument (0xFF ∷ []) (Text (0xFF ∷ [])) → ⊥
unfolding utf8
SpellsArgument-text_that_is_no_utf8 (([], (is, e)), same) = cc
SpellsArgument-text_that_is_no_utf8 ((c ∷ t, (is, e)), same) = grind arith

space-is_20 : space ≡ 0x20
space-is_20 = refl

SpellsArguments-none : SpellsArguments [] []
SpellsArguments-none = refl

SpellsArguments-space_and_no_argument : SpellsArguments (codes " ") [] → ⊥
SpellsArguments-space_and_no_argument e = cc

SpellsArguments-each_after_a_space : SpellsArguments (codes " 7 ab") (Number 7 ∷ Text (codes "ab") ∷ [])
unfolding utf8
SpellsArguments-each_after_a_space = (
  codes "7",
  codes " ab",
  refl,
  omega arith,
  (codes "ab", [], refl, ((codes "ab", ((inl (lit< tt), (inl (lit< tt), tt)), refl)), refl), refl),
)

SpellsArguments-nothing_but_the_argument : SpellsArguments [] (Text [] ∷ []) → ⊥
SpellsArguments-nothing_but_the_argument (first, others, e, spelled, next) = cc

SpellsArguments-another_byte_than_a_space : SpellsArguments (codes "-7") (Number 7 ∷ []) → ⊥
SpellsArguments-another_byte_than_a_space (first, others, e, spelled, next) = grind arith

-- what follows one space, if it spells one argument
only : (rest : List ℕ) (a : Argument) → SpellsArguments (space ∷ rest) (a ∷ []) → SpellsArgument rest a
only rest a (first, [], e, spelled, next) =
    let same : first ≡ rest = cc (append-nil first) in subst (λ bs. SpellsArgument bs a) same spelled
only rest a (first, b ∷ others, e, spelled, next) = absurd (cc)

SpellsArguments-another_argument : SpellsArguments (codes " 7") (Number 8 ∷ []) → ⊥
SpellsArguments-another_argument spelled = let number : IsNumber (codes "7") 8 = only (codes "7") (Number 8) spelled in omega arith

SpellsArguments-something_follows : SpellsArguments (codes " 7 ") (Number 7 ∷ []) → ⊥
SpellsArguments-something_follows spelled = let number : IsNumber (codes "7 ") 7 = only (codes "7 ") (Number 7) spelled in omega arith

SpellsArguments-two_spaces : SpellsArguments (codes " 1  2") (Number 1 ∷ Number 2 ∷ []) → ⊥
SpellsArguments-two_spaces ([], others, e, number, next) = omega arith
SpellsArguments-two_spaces (b ∷ [], others, e, number, next) =
    let rest : others ≡ codes "  2" = grind arith in
    let next : SpellsArguments (codes "  2") (Number 2 ∷ []) = subst (λ bs. SpellsArguments bs (Number 2 ∷ [])) rest next in
    let number : IsNumber (codes " 2") 2 = only (codes " 2") (Number 2) next in omega arith
SpellsArguments-two_spaces (b ∷ c ∷ first, others, e, number, next) = let is : c ≡ 0x20 = grind arith in omega arith

-- Lines

IsLineOf-word_alone : IsLineOf (codes "pop") command.Pop
IsLineOf-word_alone = ([], refl, refl)

IsLineOf-number_after_zeros : IsLineOf (codes "truncate 007") (command.Truncate 7)
IsLineOf-number_after_zeros = (codes " 007", refl, (codes "007", [], refl, omega arith, refl))

IsLineOf-two_numbers : IsLineOf (codes "get 0 9") (command.Get 0 9)
IsLineOf-two_numbers = (codes " 0 9", refl, (codes "0", codes " 9", refl, omega arith, (codes "9", [], refl, omega arith, refl)))

IsLineOf-character : IsLineOf (codes "try_push " ++ 0xC3 ∷ 0xA9 ∷ []) (command.TryPush 0xE9)
unfolding utf8
IsLineOf-character = (0x20 ∷ 0xC3 ∷ 0xA9 ∷ [], refl, (0xC3 ∷ 0xA9 ∷ [], [], refl, (inl (lit< tt), refl), refl))

IsLineOf-number_and_character : IsLineOf (codes "try_insert 1 A") (command.TryInsert 1 0x41)
unfolding utf8
IsLineOf-number_and_character =
    (codes " 1 A", refl, (codes "1", codes " A", refl, omega arith, (codes "A", [], refl, (inl (lit< tt), refl), refl)))

IsLineOf-empty_text : IsLineOf (codes "push_str ") (command.PushStr (str []))
IsLineOf-empty_text = (codes " ", refl, ([], [], refl, (([], (tt, refl)), refl), refl))

IsLineOf-text_that_begins_with_a_space : IsLineOf (codes "insert_str 0  x") (command.InsertStr 0 (str (codes " x")))
unfolding utf8
IsLineOf-text_that_begins_with_a_space = (
  codes " 0  x",
  refl,
  (
    codes "0",
    codes "  x",
    refl,
    omega arith,
    (codes " x", [], refl, ((codes " x", ((inl (lit< tt), (inl (lit< tt), tt)), refl)), refl), refl),
  ),
)

-- What is the line of no command. The word of a command begins its line, which tells nearly all of them apart.
abbrev begins : List ℕ → List ℕ → Bool
begins [] line = true
begins (b ∷ bs) [] = false
begins (b ∷ bs) (c ∷ cs) = nat_eq b c && begins bs cs

begun : (w rest : List ℕ) → begins w (w ++ rest) ≡ true
begun [] rest = refl
begun (b ∷ w) rest = let rest_begun = begun w rest in grind arith

other_word : (w line : List ℕ) → begins w line ≡ false → (rest : List ℕ) → line ≡ w ++ rest → ⊥
other_word w line none rest e = true≢false (sym (subst (λ l. begins w l ≡ true) (sym e) (begun w rest)) ∙ none)

IsLineOf-empty : (c : Command) → IsLineOf [] c → ⊥
IsLineOf-empty command.Pop (rest, e, spelled) = cc
IsLineOf-empty c (rest, e, spelled) = other_word (word c) [] refl rest e

IsLineOf-space_after_a_word_alone : (c : Command) → IsLineOf (codes "pop ") c → ⊥
IsLineOf-space_after_a_word_alone command.Pop (rest, e, spelled) =
    let r : codes " " ≡ rest = ap (drop 3) e in cc
IsLineOf-space_after_a_word_alone c (rest, e, spelled) = other_word (word c) (codes "pop ") refl rest e

IsLineOf-256 : (c : Command) → IsLineOf (codes "truncate 256") c → ⊥
IsLineOf-256 (command.Truncate i) (rest, e, spelled) =
    let spelled : SpellsArguments (codes " 256") (Number i ∷ []) = subst (λ bs. SpellsArguments bs (Number i ∷ [])) (sym (ap (drop 8) e)) spelled in
    let number : IsNumber (codes "256") i = only (codes "256") (Number i) spelled in omega arith
IsLineOf-256 c (rest, e, spelled) = other_word (word c) (codes "truncate 256") refl rest e

IsLineOf-no_number : (c : Command) → IsLineOf (codes "truncate") c → ⊥
IsLineOf-no_number (command.Truncate i) (rest, e, (first, others, whole, spelled, next)) = let r : [] ≡ rest = ap (drop 8) e in cc
IsLineOf-no_number c (rest, e, spelled) = other_word (word c) (codes "truncate") refl rest e

IsLineOf-no_space_before_a_character : (c : Command) → IsLineOf (codes "try_push") c → ⊥
IsLineOf-no_space_before_a_character (command.TryPush c) (rest, e, (first, others, whole, spelled, next)) =
    let r : [] ≡ rest = ap (drop 8) e in cc
IsLineOf-no_space_before_a_character c (rest, e, spelled) = other_word (word c) (codes "try_push") refl rest e

-- no character has no byte of UTF-8, and none has two letters
no_utf8 : (c : ℕ) → [] ≡ utf8 c → ⊥
unfolding utf8
no_utf8 c e = grind arith

two_letters : (c : ℕ) → codes "ab" ≡ utf8 c → ⊥
unfolding utf8
two_letters c e = grind arith

IsLineOf-no_character : (c : Command) → IsLineOf (codes "try_push ") c → ⊥
IsLineOf-no_character (command.TryPush c) (rest, e, spelled) =
    no_utf8 c (only [] (Character c) (subst (λ bs. SpellsArguments bs (Character c ∷ [])) (sym (ap (drop 8) e)) spelled)).1
IsLineOf-no_character c (rest, e, spelled) = other_word (word c) (codes "try_push ") refl rest e

IsLineOf-two_characters : (c : Command) → IsLineOf (codes "try_push ab") c → ⊥
IsLineOf-two_characters (command.TryPush c) (rest, e, spelled) =
    two_letters c (only (codes "ab") (Character c) (subst (λ bs. SpellsArguments bs (Character c ∷ [])) (sym (ap (drop 8) e)) spelled)).1
IsLineOf-two_characters c (rest, e, spelled) = other_word (word c) (codes "try_push ab") refl rest e

IsLineOf-capital_letter : (c : Command) → IsLineOf (codes "Push_str x") c → ⊥
IsLineOf-capital_letter command.Pop (rest, e, spelled) = other_word (codes "pop") (codes "Push_str x") refl rest e
IsLineOf-capital_letter c (rest, e, spelled) = other_word (word c) (codes "Push_str x") refl rest e

IsLineOf-two_spaces : (c : Command) → IsLineOf (codes "get 1  2") c → ⊥
IsLineOf-two_spaces (command.Get start end) (rest, e, spelled) =
    apart start end (subst (λ bs. SpellsArguments bs (Number start ∷ Number end ∷ [])) (sym (ap (drop 3) e)) spelled)
  where
    apart : (m n : ℕ) → SpellsArguments (codes " 1  2") (Number m ∷ Number n ∷ []) → ⊥
    apart m n ([], others, e, number, next) = omega arith
    apart m n (b ∷ [], others, e, number, next) =
        let rest : others ≡ codes "  2" = grind arith in
        let next : SpellsArguments (codes "  2") (Number n ∷ []) = subst (λ bs. SpellsArguments bs (Number n ∷ [])) rest next in
        let number : IsNumber (codes " 2") n = only (codes " 2") (Number n) next in omega arith
    apart m n (b ∷ c ∷ first, others, e, number, next) = let is : c ≡ 0x20 = grind arith in omega arith
IsLineOf-two_spaces c (rest, e, spelled) = other_word (word c) (codes "get 1  2") refl rest e

-- a tab is no space
IsLineOf-tab : (c : Command) → IsLineOf (codes "truncate" ++ 0x09 ∷ codes "7") c → ⊥
IsLineOf-tab (command.Truncate i) (rest, e, (first, others, whole, spelled, next)) =
    let r : 0x09 ∷ codes "7" ≡ rest = ap (drop 8) e in grind arith
IsLineOf-tab c (rest, e, spelled) = other_word (word c) (codes "truncate" ++ 0x09 ∷ codes "7") refl rest e

-- What is printed of a command

spelling_of_argument-number : map (λ n. spelling_of_argument (Number n)) (0 ∷ 7 ∷ 10 ∷ 255 ∷ []) ≡ codes "0" ∷ codes "7" ∷ codes "10" ∷ codes "255" ∷ []
unfolding digits
spelling_of_argument-number = refl

spelling_of_argument-character : spelling_of_argument (Character 0xE9) ≡ 0xC3 ∷ 0xA9 ∷ []
unfolding utf8
spelling_of_argument-character = refl

spelling_of_argument-text : spelling_of_argument (Text (codes " a")) ≡ codes " a"
spelling_of_argument-text = refl

spelling_of_arguments-none : spelling_of_arguments [] ≡ []
spelling_of_arguments-none = refl

spelling_of_arguments-each_after_a_space : spelling_of_arguments (Number 1 ∷ Number 20 ∷ Text (codes "ab") ∷ []) ≡ codes " 1 20 ab"
unfolding digits
spelling_of_arguments-each_after_a_space = refl

-- the `é` of the first command is printed as its two bytes
line_of-each : map line_of each
    ≡ (codes "try_push " ++ 0xC3 ∷ 0xA9 ∷ []) ∷ codes "try_push_str ab" ∷ codes "push_str " ∷ codes "pop" ∷ codes "truncate 7"
    ∷ codes "trim" ∷ codes "remove 0" ∷ codes "retain_not a" ∷ codes "try_insert 1 b" ∷ codes "try_insert_str 2 c d"
    ∷ codes "insert_str 0  x" ∷ codes "split_off 255" ∷ codes "clear" ∷ codes "drain 4 10" ∷ codes "drain_through 5 11"
    ∷ codes "drain_back 6 12" ∷ codes "replace_range 1 3 ef" ∷ codes "upper" ∷ codes "lower" ∷ codes "get 0 9" ∷ codes "len"
    ∷ codes "capacity" ∷ codes "as_str" ∷ []
unfolding digits utf8
line_of-each = refl

EachArgumentIsValid-none : EachArgumentIsValid []
EachArgumentIsValid-none = tt

EachArgumentIsValid-each_kind : EachArgumentIsValid (Number 255 ∷ Character 0x10FFFF ∷ Text [] ∷ [])
EachArgumentIsValid-each_kind = (lit≤ tt, (inr (lit≤ tt, lit< tt), (([], (tt, refl)), tt)))

EachArgumentIsValid-256 : EachArgumentIsValid (Number 256 ∷ []) → ⊥
EachArgumentIsValid-256 are = omega arith

EachArgumentIsValid-surrogate : EachArgumentIsValid (Character 0xDFFF ∷ []) → ⊥
EachArgumentIsValid-surrogate (inl low, none) = omega arith
EachArgumentIsValid-surrogate (inr high, none) = omega arith

EachArgumentIsValid-text_that_is_no_utf8 : EachArgumentIsValid (Text (0xFF ∷ []) ∷ []) → ⊥
unfolding utf8
EachArgumentIsValid-text_that_is_no_utf8 (([], (is, e)), none) = cc
EachArgumentIsValid-text_that_is_no_utf8 ((c ∷ t, (is, e)), none) = grind arith

EachArgumentIsValid-behind_a_number : EachArgumentIsValid (Number 0 ∷ Number 256 ∷ []) → ⊥
EachArgumentIsValid-behind_a_number are = omega arith

EachArgumentIsValid-behind_a_character : EachArgumentIsValid (Character 0x61 ∷ Number 256 ∷ []) → ⊥
EachArgumentIsValid-behind_a_character are = omega arith

EachArgumentIsValid-behind_a_text : EachArgumentIsValid (Text [] ∷ Number 256 ∷ []) → ⊥
EachArgumentIsValid-behind_a_text are = omega arith

-- Words and numbers before a space

HasNoSpace-no_byte : HasNoSpace []
HasNoSpace-no_byte = tt

HasNoSpace-pop : HasNoSpace (codes "pop")
HasNoSpace-pop = omega arith

HasNoSpace-two : HasNoSpace (codes "a b") → ⊥
HasNoSpace-two is = is.1.0 refl

IsNumberBeforeSpace-a_space : IsNumberBeforeSpace (codes "12 x y") 12 (codes "x y")
IsNumberBeforeSpace-a_space = (codes "12", omega arith, refl)

IsNumberBeforeSpace-no_space : IsNumberBeforeSpace (codes "12") 12 [] → ⊥
IsNumberBeforeSpace-no_space ([], number, e) = grind arith
IsNumberBeforeSpace-no_space (b ∷ [], number, e) = grind arith
IsNumberBeforeSpace-no_space (b ∷ c ∷ [], number, e) = cc
IsNumberBeforeSpace-no_space (b ∷ c ∷ d ∷ bs, number, e) = cc

IsNumberBeforeSpace-no_number : IsNumberBeforeSpace (codes " x") 0 (codes "x") → ⊥
IsNumberBeforeSpace-no_number ([], number, e) = omega arith
IsNumberBeforeSpace-no_number (b ∷ bs, number, e) = let is : b ≡ 0x20 = grind arith in omega arith
