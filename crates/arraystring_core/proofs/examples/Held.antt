-- Examples of what laws say of tests.
use Rattle.std.proofs.Common.{[], ◌∷◌, refl, inl, inr, arith}
use Rattle.arraystring_core.specs.Causes.{Past, Room, no_room_test, reversed_range_test}
use Rattle.arraystring_core.specs.Held.{NoTestHolds, IsFirstCause}

NoTestHolds-of_two : NoTestHolds [] × NoTestHolds (no_room_test 4 4 ∷ reversed_range_test 1 2 ∷ [])
NoTestHolds-of_two = (tt, (refl, (refl, tt)))

NoTestHolds-not_the_first : NoTestHolds (no_room_test 5 4 ∷ reversed_range_test 1 2 ∷ []) → ⊥
NoTestHolds-not_the_first none = cc (none.0)

NoTestHolds-not_the_second : NoTestHolds (no_room_test 4 4 ∷ reversed_range_test 2 1 ∷ []) → ⊥
NoTestHolds-not_the_second none = cc (none.1.0)

IsFirstCause-the_first : IsFirstCause (no_room_test 5 4 ∷ reversed_range_test 2 1 ∷ []) Room
IsFirstCause-the_first = inl (refl, refl)

IsFirstCause-the_second : IsFirstCause (no_room_test 4 4 ∷ reversed_range_test 2 1 ∷ []) Past
IsFirstCause-the_second = inr (refl, inl (refl, refl))

IsFirstCause-not_the_second_of_two : IsFirstCause (no_room_test 5 4 ∷ reversed_range_test 2 1 ∷ []) Past → ⊥
IsFirstCause-not_the_second_of_two first = grind arith

IsFirstCause-not_one_that_does_not_hold : IsFirstCause (no_room_test 4 4 ∷ []) Room → ⊥
IsFirstCause-not_one_that_does_not_hold first = grind arith
