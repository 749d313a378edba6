-- Examples of counts.
use Rattle.std.proofs.Common.{◌≡◌, arith}
use Rattle.arraystring_base.specs.Counts.{StepsView}

abbrev one_look : StepsView
one_look = record { looked = 1; moved = 0 }

abbrev one_move : StepsView
one_move = record { looked = 0; moved = 1 }

StepsView-a_look_is_no_move : one_look ≡ one_move → ⊥
StepsView-a_look_is_no_move e = grind arith
