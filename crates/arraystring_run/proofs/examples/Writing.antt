-- Examples of what a write that failed has written. `codes "ab"` is the list of the bytes of `"ab"`.
use Rattle.std.proofs.Common.{[], Some, None, refl, arith, codes}
use Rattle.arraystring_run.specs.Writing.{AppendsPrefix, PassesThroughBuffer}

AppendsPrefix-none_of_it : AppendsPrefix (Some (codes "x")) (Some (codes "x")) (codes "ab")
AppendsPrefix-none_of_it = record { done = []; later = codes "ab"; whole = refl; appended = refl }

AppendsPrefix-a_part : AppendsPrefix (Some (codes "x")) (Some (codes "xa")) (codes "ab")
AppendsPrefix-a_part = record { done = codes "a"; later = codes "b"; whole = refl; appended = refl }

AppendsPrefix-all_of_it : AppendsPrefix (Some (codes "x")) (Some (codes "xab")) (codes "ab")
AppendsPrefix-all_of_it = record { done = codes "ab"; later = []; whole = refl; appended = refl }

-- a writer whose bytes nobody knows
AppendsPrefix-to_unknown_bytes : AppendsPrefix None None (codes "ab")
AppendsPrefix-to_unknown_bytes = record { done = []; later = codes "ab"; whole = refl; appended = tt }

AppendsPrefix-another_byte : AppendsPrefix (Some []) (Some (codes "b")) (codes "ab") → ⊥
AppendsPrefix-another_byte is = grind arith

AppendsPrefix-more : AppendsPrefix (Some []) (Some (codes "abc")) (codes "ab") → ⊥
AppendsPrefix-more is = grind arith

AppendsPrefix-what_was_there_is_lost : AppendsPrefix (Some (codes "x")) (Some []) (codes "ab") → ⊥
AppendsPrefix-what_was_there_is_lost is = cc

PassesThroughBuffer-all_waits : PassesThroughBuffer (Some (codes "x")) (Some (codes "x")) (codes "a") (codes "ab") (codes "b")
PassesThroughBuffer-all_waits = record { done = []; whole = refl; appended = refl }

PassesThroughBuffer-the_front_was_appended : PassesThroughBuffer (Some (codes "x")) (Some (codes "xab")) (codes "a") (codes "c") (codes "bc")
PassesThroughBuffer-the_front_was_appended = record { done = codes "ab"; whole = refl; appended = refl }

PassesThroughBuffer-a_byte_is_lost : PassesThroughBuffer (Some (codes "x")) (Some (codes "xa")) (codes "a") [] (codes "b") → ⊥
PassesThroughBuffer-a_byte_is_lost is = grind arith

PassesThroughBuffer-a_byte_was_not_appended : PassesThroughBuffer (Some (codes "x")) (Some (codes "x")) (codes "a") (codes "b") (codes "b") → ⊥
PassesThroughBuffer-a_byte_was_not_appended is = grind arith
