-- Examples of what a replacement and a removal do to a text and to a count of moves. In `abcd`, 'b' is replaced: one byte is before it, and
-- two are behind it. So by a text of another size one byte moves at least, and three at most. If 'b' is removed, these three stay where they
-- are, or the two behind it move, or the one before it does.
use Rattle.std.proofs.Common.{ℕ, refl, arith, codes}
use Rattle.arraystring_base.specs.Text.{width}
use Rattle.arraystring_base.specs.Counts.{StepsView}
use Rattle.arraystring_core.specs.Splice.{ReplacesPartCountingMoves, RemovesPartCountingMoves}

-- counters that stand at 4 looks, where they have to stay, and at n moves
abbrev moves : ℕ → StepsView
moves n = record { looked = 4; moved = n }

ReplacesPartCountingMoves-one_move : ReplacesPartCountingMoves (codes "abcd") 1 2 (codes "xy") (codes "axycd") (moves 7) (moves 8)
unfolding width
ReplacesPartCountingMoves-one_move = record { text = refl; most = omega arith; least = λ other. omega arith; counted = omega arith; looked = refl }

ReplacesPartCountingMoves-three_moves : ReplacesPartCountingMoves (codes "abcd") 1 2 (codes "xy") (codes "axycd") (moves 7) (moves 10)
unfolding width
ReplacesPartCountingMoves-three_moves = record { text = refl; most = omega arith; least = λ other. omega arith; counted = omega arith; looked = refl }

ReplacesPartCountingMoves-none_at_the_same_size : ReplacesPartCountingMoves (codes "abcd") 1 2 (codes "x") (codes "axcd") (moves 7) (moves 7)
unfolding width
ReplacesPartCountingMoves-none_at_the_same_size =
    record { text = refl; most = omega arith; least = λ other. absurd (other refl); counted = omega arith; looked = refl }

ReplacesPartCountingMoves-no_other_text : ReplacesPartCountingMoves (codes "abcd") 1 2 (codes "xy") (codes "axy") (moves 7) (moves 8) → ⊥
unfolding width
ReplacesPartCountingMoves-no_other_text is = grind (arith, is.text)

ReplacesPartCountingMoves-not_four_moves : ReplacesPartCountingMoves (codes "abcd") 1 2 (codes "xy") (codes "axycd") (moves 7) (moves 11) → ⊥
unfolding width
ReplacesPartCountingMoves-not_four_moves is = omega (arith, is.most)

ReplacesPartCountingMoves-not_without_a_move : ReplacesPartCountingMoves (codes "abcd") 1 2 (codes "xy") (codes "axycd") (moves 7) (moves 7) → ⊥
unfolding width
ReplacesPartCountingMoves-not_without_a_move is = omega (arith, is.least (omega arith))

ReplacesPartCountingMoves-no_count_falls : ReplacesPartCountingMoves (codes "abcd") 1 2 (codes "x") (codes "axcd") (moves 7) (moves 6) → ⊥
ReplacesPartCountingMoves-no_count_falls is = omega (arith, is.counted)

ReplacesPartCountingMoves-no_look : ReplacesPartCountingMoves (codes "abcd") 1 2 (codes "xy") (codes "axycd") (moves 7) (record { looked = 5; moved = 8 }) → ⊥
ReplacesPartCountingMoves-no_look is = omega (arith, is.looked)

ReplacesPartCountingMoves-the_fewer_are_behind : ReplacesPartCountingMoves (codes "abcd") 2 3 (codes "xy") (codes "abxyd") (moves 7) (moves 8)
unfolding width
ReplacesPartCountingMoves-the_fewer_are_behind = record { text = refl; most = omega arith; least = λ other. omega arith; counted = omega arith; looked = refl }

RemovesPartCountingMoves-one_move : RemovesPartCountingMoves (codes "abcd") 1 2 (codes "acd") (moves 7) (moves 8)
unfolding width
RemovesPartCountingMoves-one_move =
    record { text = refl; free = λ first. omega (arith, first); tail_alone = omega arith; least = λ some. omega arith; counted = omega arith; looked = refl }

RemovesPartCountingMoves-none_at_the_start : RemovesPartCountingMoves (codes "abcd") 0 2 (codes "cd") (moves 7) (moves 7)
unfolding width
RemovesPartCountingMoves-none_at_the_start =
    record { text = refl; free = λ first. refl; tail_alone = omega arith; least = λ some. omega arith; counted = omega arith; looked = refl }

RemovesPartCountingMoves-none_of_nothing : RemovesPartCountingMoves (codes "abcd") 1 1 (codes "abcd") (moves 7) (moves 7)
unfolding width
RemovesPartCountingMoves-none_of_nothing =
    record { text = refl; free = λ first. refl; tail_alone = omega arith; least = λ some. absurd (some refl); counted = omega arith; looked = refl }

RemovesPartCountingMoves-no_other_text : RemovesPartCountingMoves (codes "abcd") 1 2 (codes "abd") (moves 7) (moves 8) → ⊥
unfolding width
RemovesPartCountingMoves-no_other_text is = grind (arith, is.text)

RemovesPartCountingMoves-no_move_at_the_start : RemovesPartCountingMoves (codes "abcd") 0 2 (codes "cd") (moves 7) (moves 8) → ⊥
RemovesPartCountingMoves-no_move_at_the_start is = omega (arith, is.free refl)

RemovesPartCountingMoves-not_three_moves : RemovesPartCountingMoves (codes "abcd") 1 2 (codes "acd") (moves 7) (moves 10) → ⊥
unfolding width
RemovesPartCountingMoves-not_three_moves is = omega (arith, is.tail_alone)

RemovesPartCountingMoves-not_without_a_move : RemovesPartCountingMoves (codes "abcd") 1 2 (codes "acd") (moves 7) (moves 7) → ⊥
unfolding width
RemovesPartCountingMoves-not_without_a_move is = omega (arith, is.least (omega arith))

RemovesPartCountingMoves-no_count_falls : RemovesPartCountingMoves (codes "abcd") 1 1 (codes "abcd") (moves 7) (moves 6) → ⊥
RemovesPartCountingMoves-no_count_falls is = omega (arith, is.counted)

RemovesPartCountingMoves-no_look : RemovesPartCountingMoves (codes "abcd") 1 2 (codes "acd") (moves 7) (record { looked = 5; moved = 8 }) → ⊥
RemovesPartCountingMoves-no_look is = omega (arith, is.looked)
