-- Examples of the table of edits. `Makes ROW t result new` says that an edit of the text t returns the result and leaves the text
-- new. 'é' takes two bytes and '🤔' four; the last number of a row is the capacity, where it has one.
use Rattle.std.proofs.Common.{◌≡◌, ℕ, List, [], ◌∷◌, refl, codes, Some, None, Ok, Err}
use Rattle.std.specs.declared.fmt.Error.{Error as FmtError}
use Rattle.arraystring_base.specs.Text.{width}
use Rattle.arraystring_base.specs.declared.error.Error.TheVariants as error
use Rattle.arraystring_base.specs.declared.error.OutOfBounds.{OutOfBounds}
use Rattle.arraystring_base.specs.declared.error.Utf8.{Utf8}
use Rattle.arraystring_core.specs.Stored.{view_with_empty_spare}
use Rattle.arraystring_core.specs.WhiteSpace.{equals_space, is_white_space}
use Rattle.arraystring_core.specs.Causes.{Past, Inside, first_cause}
use Rattle.arraystring_core.specs.Edits.{ok_unless_cause, result_of, text_after_edit, Makes, map_err_from_out_of_bounds, map_err_from_fmt, map_err_from_utf8, string_result_as_text, addition, addition_of_cut, popping, insertion, insertion_of_cut, truncation, trimming_matches, removal, clearing, split, uppercase, lowercase, draining, replacement}

-- rows

Edit-tests_result_and_text : ((popping (codes "ab")).tests ≡ [])
    × ((popping (codes "ab")).result ≡ Some 0x62) × ((popping (codes "ab")).after ≡ codes "a")
Edit-tests_result_and_text = (refl, refl, refl)

ok_unless_cause-there_is_a_cause : (ok_unless_cause None (codes "a") ≡ Ok (codes "a")) × (ok_unless_cause (Some Inside) (codes "a") ≡ Err error.Utf8)
ok_unless_cause-there_is_a_cause = (refl, refl)

result_of-done_and_refused : (result_of (split (codes "aé") 1) ≡ Ok (codes "é")) × (result_of (split (codes "aé") 2) ≡ Err error.Utf8)
unfolding width
result_of-done_and_refused = (refl, refl)

text_after_edit-done_and_refused : (text_after_edit (split (codes "aé") 1) (codes "aé") ≡ codes "a")
    × (text_after_edit (split (codes "aé") 2) (codes "aé") ≡ codes "aé")
unfolding width
text_after_edit-done_and_refused = (refl, refl)

Makes-done : Makes clearing (codes "a") (Ok tt) []
Makes-done = record { returns = refl; ok = refl; err = tt }

Makes-refused : Makes (removal (codes "é") 1) (codes "é") (Err error.Utf8) (codes "é")
unfolding width
Makes-refused = record { returns = refl; ok = tt; err = refl }

Makes-no_other_result : Makes clearing (codes "a") (Err error.Utf8) (codes "a") → ⊥
Makes-no_other_result makes = cc (makes.returns)

Makes-no_other_text_when_done : Makes clearing (codes "a") (Ok tt) (codes "a") → ⊥
Makes-no_other_text_when_done makes = cc (makes.ok)

Makes-no_other_text_when_refused : Makes (removal (codes "é") 1) (codes "é") (Err error.Utf8) [] → ⊥
Makes-no_other_text_when_refused makes = cc (makes.err)

map_err_from_out_of_bounds-of_each_result : (map_err_from_out_of_bounds (Ok (codes "a")) ≡ Ok (codes "a"))
    × ((e : OutOfBounds) → map_err_from_out_of_bounds {A = ℕ} (Err e) ≡ Err error.OutOfBounds)
map_err_from_out_of_bounds-of_each_result = (refl, λ e. refl)

map_err_from_fmt-of_each_result : (map_err_from_fmt (Ok (codes "a")) ≡ Ok (codes "a"))
    × ((e : FmtError) → map_err_from_fmt {A = ℕ} (Err e) ≡ Err error.OutOfBounds)
map_err_from_fmt-of_each_result = (refl, λ e. refl)

map_err_from_utf8-of_each_result : (map_err_from_utf8 (Ok (codes "a")) ≡ Ok (codes "a"))
    × ((e : Utf8) → map_err_from_utf8 {A = ℕ} (Err e) ≡ Err error.Utf8)
map_err_from_utf8-of_each_result = (refl, λ e. refl)

string_result_as_text-of_each_result : (string_result_as_text (Ok (view_with_empty_spare (codes "ab"))) ≡ Ok (codes "ab")) × (string_result_as_text (Err error.Utf8) ≡ Err error.Utf8)
string_result_as_text-of_each_result = (refl, refl)

string_result_as_text-whatever_lies_around_it : (spare : List ℕ) → string_result_as_text (Ok (record { text = codes "ab"; spare = spare })) ≡ Ok (codes "ab")
string_result_as_text-whatever_lies_around_it spare = refl

-- the table

addition-fits_exactly : Makes (addition (codes "a") (codes "é") 3) (codes "a") (Ok tt) (codes "aé")
unfolding width
addition-fits_exactly = record { returns = refl; ok = refl; err = tt }

addition-no_room_test : Makes (addition (codes "a") (codes "é") 2) (codes "a") (Err error.OutOfBounds) (codes "a")
unfolding width
addition-no_room_test = record { returns = refl; ok = tt; err = refl }

addition_of_cut-to_the_room : Makes (addition_of_cut (codes "a") (codes "bc") 2) (codes "a") (Ok tt) (codes "ab")
unfolding width
addition_of_cut-to_the_room = record { returns = refl; ok = refl; err = tt }

addition_of_cut-takes_no_later_character : Makes (addition_of_cut (codes "a") (codes "éb") 2) (codes "a") (Ok tt) (codes "a")
unfolding width
addition_of_cut-takes_no_later_character = record { returns = refl; ok = refl; err = tt }

-- what is there is not cut
addition_of_cut-without_room : Makes (addition_of_cut (codes "abc") (codes "d") 2) (codes "abc") (Ok tt) (codes "abc")
unfolding width
addition_of_cut-without_room = record { returns = refl; ok = refl; err = tt }

popping-the_last : Makes (popping (codes "ab")) (codes "ab") (Ok (Some 0x62)) (codes "a")
popping-the_last = record { returns = refl; ok = refl; err = tt }

popping-of_nothing : Makes (popping []) [] (Ok None) []
popping-of_nothing = record { returns = refl; ok = refl; err = tt }

insertion-between : Makes (insertion (codes "aé") 1 (codes "x") 4) (codes "aé") (Ok tt) (codes "axé")
unfolding width
insertion-between = record { returns = refl; ok = refl; err = tt }

insertion-at_the_end : Makes (insertion (codes "aé") 3 (codes "x") 4) (codes "aé") (Ok tt) (codes "aéx")
unfolding width
insertion-at_the_end = record { returns = refl; ok = refl; err = tt }

insertion-past_the_text : Makes (insertion (codes "aé") 4 (codes "x") 4) (codes "aé") (Err error.OutOfBounds) (codes "aé")
unfolding width
insertion-past_the_text = record { returns = refl; ok = tt; err = refl }

insertion-inside_a_character : Makes (insertion (codes "aé") 2 (codes "x") 4) (codes "aé") (Err error.Utf8) (codes "aé")
unfolding width
insertion-inside_a_character = record { returns = refl; ok = tt; err = refl }

insertion-no_room_test : Makes (insertion (codes "aé") 1 (codes "x") 3) (codes "aé") (Err error.OutOfBounds) (codes "aé")
unfolding width
insertion-no_room_test = record { returns = refl; ok = tt; err = refl }

-- the error is the same, but only a refusal for room is tight
insertion-past_before_room : first_cause (insertion (codes "aé") 4 (codes "xy") 4).tests ≡ Some Past
unfolding width
insertion-past_before_room = refl

insertion-room_before_inside : Makes (insertion (codes "🤔") 1 (codes "x") 4) (codes "🤔") (Err error.OutOfBounds) (codes "🤔")
unfolding width
insertion-room_before_inside = record { returns = refl; ok = tt; err = refl }

insertion_of_cut-to_the_room : Makes (insertion_of_cut (codes "ac") 1 (codes "bb") 3) (codes "ac") (Ok tt) (codes "abc")
unfolding width
insertion_of_cut-to_the_room = record { returns = refl; ok = refl; err = tt }

insertion_of_cut-past_the_text : Makes (insertion_of_cut (codes "ac") 3 (codes "b") 3) (codes "ac") (Err error.OutOfBounds) (codes "ac")
unfolding width
insertion_of_cut-past_the_text = record { returns = refl; ok = tt; err = refl }

-- without room, too
insertion_of_cut-inside_a_character : Makes (insertion_of_cut (codes "🤔") 1 (codes "x") 4) (codes "🤔") (Err error.Utf8) (codes "🤔")
unfolding width
insertion_of_cut-inside_a_character = record { returns = refl; ok = tt; err = refl }

truncation-at_a_boundary : Makes (truncation (codes "aéb") 3) (codes "aéb") (Ok tt) (codes "aé")
unfolding width
truncation-at_a_boundary = record { returns = refl; ok = refl; err = tt }

truncation-past_the_text : Makes (truncation (codes "aé") 4) (codes "aé") (Ok tt) (codes "aé")
unfolding width
truncation-past_the_text = record { returns = refl; ok = refl; err = tt }

truncation-inside_a_character : Makes (truncation (codes "aé") 2) (codes "aé") (Err error.Utf8) (codes "aé")
unfolding width
truncation-inside_a_character = record { returns = refl; ok = tt; err = refl }

trimming_matches-both_ends : Makes (trimming_matches equals_space (codes " a b ")) (codes " a b ") (Ok tt) (codes "a b")
trimming_matches-both_ends = record { returns = refl; ok = refl; err = tt }

-- a tab and U+3000 are white space, and no spaces
trimming_matches-what_passes : Makes (trimming_matches is_white_space (0x09 ∷ 0x61 ∷ 0x3000 ∷ [])) (0x09 ∷ 0x61 ∷ 0x3000 ∷ []) (Ok tt) (codes "a")
unfolding is_white_space
trimming_matches-what_passes = record { returns = refl; ok = refl; err = tt }

removal-between : Makes (removal (codes "aéb") 1) (codes "aéb") (Ok 0xE9) (codes "ab")
unfolding width
removal-between = record { returns = refl; ok = refl; err = tt }

removal-at_the_end : Makes (removal (codes "aé") 3) (codes "aé") (Err error.OutOfBounds) (codes "aé")
unfolding width
removal-at_the_end = record { returns = refl; ok = tt; err = refl }

removal-inside_a_character : Makes (removal (codes "aé") 2) (codes "aé") (Err error.Utf8) (codes "aé")
unfolding width
removal-inside_a_character = record { returns = refl; ok = tt; err = refl }

removal-of_nothing : Makes (removal [] 0) [] (Err error.OutOfBounds) []
removal-of_nothing = record { returns = refl; ok = tt; err = refl }

clearing-all : Makes clearing (codes "ab") (Ok tt) []
clearing-all = record { returns = refl; ok = refl; err = tt }

split-between : Makes (split (codes "aéb") 1) (codes "aéb") (Ok (codes "éb")) (codes "a")
unfolding width
split-between = record { returns = refl; ok = refl; err = tt }

split-at_the_end : Makes (split (codes "aé") 3) (codes "aé") (Ok []) (codes "aé")
unfolding width
split-at_the_end = record { returns = refl; ok = refl; err = tt }

split-past_the_text : Makes (split (codes "aé") 4) (codes "aé") (Err error.OutOfBounds) (codes "aé")
unfolding width
split-past_the_text = record { returns = refl; ok = tt; err = refl }

split-inside_a_character : Makes (split (codes "aé") 2) (codes "aé") (Err error.Utf8) (codes "aé")
unfolding width
split-inside_a_character = record { returns = refl; ok = tt; err = refl }

-- the characters before and behind the letters of ASCII stay
uppercase-of_ascii : Makes (uppercase (codes "`az{AZé")) (codes "`az{AZé") (Ok tt) (codes "`AZ{AZé")
uppercase-of_ascii = record { returns = refl; ok = refl; err = tt }

lowercase-of_ascii : Makes (lowercase (codes "@AZ[azÉ")) (codes "@AZ[azÉ") (Ok tt) (codes "@az[azÉ")
lowercase-of_ascii = record { returns = refl; ok = refl; err = tt }

draining-between : Makes (draining (codes "aéb") 1 3) (codes "aéb") (Ok (codes "é")) (codes "ab")
unfolding width
draining-between = record { returns = refl; ok = refl; err = tt }

draining-nothing_at_the_end : Makes (draining (codes "aé") 3 3) (codes "aé") (Ok []) (codes "aé")
unfolding width
draining-nothing_at_the_end = record { returns = refl; ok = refl; err = tt }

-- (2 is inside 'é', too)
draining-reversed : Makes (draining (codes "aé") 2 1) (codes "aé") (Err error.OutOfBounds) (codes "aé")
unfolding width
draining-reversed = record { returns = refl; ok = tt; err = refl }

draining-past_before_inside : Makes (draining (codes "aé") 2 4) (codes "aé") (Err error.OutOfBounds) (codes "aé")
unfolding width
draining-past_before_inside = record { returns = refl; ok = tt; err = refl }

draining-start_inside : Makes (draining (codes "aé") 2 3) (codes "aé") (Err error.Utf8) (codes "aé")
unfolding width
draining-start_inside = record { returns = refl; ok = tt; err = refl }

draining-end_inside : Makes (draining (codes "aé") 1 2) (codes "aé") (Err error.Utf8) (codes "aé")
unfolding width
draining-end_inside = record { returns = refl; ok = tt; err = refl }

replacement-fits_exactly : Makes (replacement (codes "abc") 1 2 (codes "é") 4) (codes "abc") (Ok tt) (codes "aéc")
unfolding width
replacement-fits_exactly = record { returns = refl; ok = refl; err = tt }

replacement-of_a_full_text : Makes (replacement (codes "abcd") 0 4 (codes "x") 4) (codes "abcd") (Ok tt) (codes "x")
unfolding width
replacement-of_a_full_text = record { returns = refl; ok = refl; err = tt }

replacement-no_room_test : Makes (replacement (codes "abcd") 0 0 (codes "xy") 5) (codes "abcd") (Err error.OutOfBounds) (codes "abcd")
unfolding width
replacement-no_room_test = record { returns = refl; ok = tt; err = refl }

replacement-reversed : Makes (replacement (codes "aé") 2 1 (codes "x") 9) (codes "aé") (Err error.OutOfBounds) (codes "aé")
unfolding width
replacement-reversed = record { returns = refl; ok = tt; err = refl }

replacement-past_before_inside : Makes (replacement (codes "aé") 2 4 (codes "x") 9) (codes "aé") (Err error.OutOfBounds) (codes "aé")
unfolding width
replacement-past_before_inside = record { returns = refl; ok = tt; err = refl }

replacement-past_before_room : first_cause (replacement (codes "aé") 1 4 (codes "wxyz") 3).tests ≡ Some Past
unfolding width
replacement-past_before_room = refl

replacement-reversed_before_room : first_cause (replacement (codes "aé") 3 1 (codes "xyz") 3).tests ≡ Some Past
unfolding width
replacement-reversed_before_room = refl

replacement-room_before_inside : Makes (replacement (codes "🤔") 1 1 (codes "x") 4) (codes "🤔") (Err error.OutOfBounds) (codes "🤔")
unfolding width
replacement-room_before_inside = record { returns = refl; ok = tt; err = refl }

-- the text would have three bytes
replacement-start_inside : Makes (replacement (codes "🤔") 1 4 (codes "xy") 4) (codes "🤔") (Err error.Utf8) (codes "🤔")
unfolding width
replacement-start_inside = record { returns = refl; ok = tt; err = refl }

replacement-end_inside : Makes (replacement (codes "🤔") 0 1 (codes "x") 4) (codes "🤔") (Err error.Utf8) (codes "🤔")
unfolding width
replacement-end_inside = record { returns = refl; ok = tt; err = refl }
