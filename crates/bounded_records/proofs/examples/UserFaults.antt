-- Examples of why texts are no user. A username may have 20 bytes, and a role 5.
use Rattle.std.proofs.Common.{ℕ, List, [], replicate, arith, lit≤, lit<, codes}
use Rattle.arraystring.specs.Text.{width}
use Rattle.bounded_records.specs.UserFaults.{IsFirstTooLarge}
use Rattle.bounded_records.specs.declared.user.UserFault.TheVariants.{Username, Role}

-- n letters `a`
abbrev letters : ℕ → List ℕ
letters n = replicate n 0x61

IsFirstTooLarge-username_of_21_bytes : IsFirstTooLarge (letters 21) (letters 5) Username
unfolding width
IsFirstTooLarge-username_of_21_bytes = lit< tt

IsFirstTooLarge-username_of_20_bytes : IsFirstTooLarge (letters 20) (letters 6) Username → ⊥
unfolding width
IsFirstTooLarge-username_of_20_bytes is = omega (arith, is)

IsFirstTooLarge-role_of_6_bytes : IsFirstTooLarge (letters 20) (letters 6) Role
unfolding width
IsFirstTooLarge-role_of_6_bytes = (lit≤ tt, lit< tt)

IsFirstTooLarge-role_of_5_bytes : IsFirstTooLarge (letters 20) (letters 5) Role → ⊥
unfolding width
IsFirstTooLarge-role_of_5_bytes is = omega (arith, is.1)

IsFirstTooLarge-bytes_are_counted : IsFirstTooLarge [] (codes "aéé") Role → ⊥
unfolding width
IsFirstTooLarge-bytes_are_counted is = omega (arith, is.1)

IsFirstTooLarge-both_are : IsFirstTooLarge (letters 21) (letters 6) Username
unfolding width
IsFirstTooLarge-both_are = lit< tt

IsFirstTooLarge-both_are_and_the_username_comes_first : IsFirstTooLarge (letters 21) (letters 6) Role → ⊥
unfolding width
IsFirstTooLarge-both_are_and_the_username_comes_first is = omega (arith, is.0)
