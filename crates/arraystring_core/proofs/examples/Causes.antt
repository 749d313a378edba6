-- Examples of why an edit is refused. 'é' takes two bytes.
use Rattle.std.proofs.Common.{◌≡◌, [], ◌∷◌, refl, codes, true, false, Some, None}
use Rattle.arraystring_base.specs.Text.{width}
use Rattle.arraystring_base.specs.declared.error.Error.TheVariants as error
use Rattle.arraystring_core.specs.Causes.{Past, Room, Inside, error_of, past_text_test, reversed_range_test, at_or_past_end_test, inside_character_test, no_room_test, first_cause}

RefusalCause-each_is_another : (Past ≡ Room → ⊥) × (Past ≡ Inside → ⊥) × (Room ≡ Inside → ⊥)
RefusalCause-each_is_another = (λ e. cc, λ e. cc, λ e. cc)

error_of-each_cause : (error_of Past ≡ error.OutOfBounds) × (error_of Room ≡ error.OutOfBounds) × (error_of Inside ≡ error.Utf8)
error_of-each_cause = (refl, refl, refl)

RefusalTest-holds_and_cause : ((no_room_test 5 4).holds ≡ true) × ((no_room_test 5 4).cause ≡ Room)
RefusalTest-holds_and_cause = (refl, refl)

past_text_test-the_text : past_text_test (codes "ab") 3 ≡ record { holds = true; cause = Past }
unfolding width
past_text_test-the_text = refl

past_text_test-not_at_its_end : past_text_test (codes "ab") 2 ≡ record { holds = false; cause = Past }
unfolding width
past_text_test-not_at_its_end = refl

reversed_range_test-reversed : reversed_range_test 2 1 ≡ record { holds = true; cause = Past }
reversed_range_test-reversed = refl

reversed_range_test-not_empty_or_in_order : (reversed_range_test 1 1 ≡ record { holds = false; cause = Past })
    × (reversed_range_test 1 2 ≡ record { holds = false; cause = Past })
reversed_range_test-not_empty_or_in_order = (refl, refl)

at_or_past_end_test-and_past_it : (at_or_past_end_test (codes "ab") 2 ≡ record { holds = true; cause = Past })
    × (at_or_past_end_test (codes "ab") 3 ≡ record { holds = true; cause = Past })
unfolding width
at_or_past_end_test-and_past_it = (refl, refl)

at_or_past_end_test-not_at_a_character : at_or_past_end_test (codes "ab") 1 ≡ record { holds = false; cause = Past }
unfolding width
at_or_past_end_test-not_at_a_character = refl

inside_character_test-a_character : inside_character_test (codes "aé") 2 ≡ record { holds = true; cause = Inside }
unfolding width
inside_character_test-a_character = refl

inside_character_test-not_at_a_boundary : (inside_character_test (codes "aé") 0 ≡ record { holds = false; cause = Inside })
    × (inside_character_test (codes "aé") 1 ≡ record { holds = false; cause = Inside })
    × (inside_character_test (codes "aé") 3 ≡ record { holds = false; cause = Inside })
unfolding width
inside_character_test-not_at_a_boundary = (refl, refl, refl)

inside_character_test-not_past_the_text : inside_character_test (codes "aé") 4 ≡ record { holds = false; cause = Inside }
unfolding width
inside_character_test-not_past_the_text = refl

no_room_test-one_byte_too_large : no_room_test 5 4 ≡ record { holds = true; cause = Room }
no_room_test-one_byte_too_large = refl

no_room_test-not_of_what_fits_exactly : no_room_test 4 4 ≡ record { holds = false; cause = Room }
no_room_test-not_of_what_fits_exactly = refl

first_cause-none : (first_cause [] ≡ None) × (first_cause (no_room_test 4 4 ∷ reversed_range_test 1 2 ∷ []) ≡ None)
first_cause-none = (refl, refl)

first_cause-of_two_that_hold : first_cause (no_room_test 5 4 ∷ reversed_range_test 2 1 ∷ []) ≡ Some Room
first_cause-of_two_that_hold = refl

first_cause-the_second : first_cause (no_room_test 4 4 ∷ reversed_range_test 2 1 ∷ []) ≡ Some Past
first_cause-the_second = refl
