-- Laws use these definitions to say that no test of an edit holds, or which cause the first test that holds gives. No contract uses them.
use Rattle.std.specs.Prelude.{◌≡◌, ◌⊎◌, ⊤, List, [], ◌∷◌, true, false}
use Rattle.arraystring_core.specs.Causes.{RefusalCause, RefusalTest}

-- none of the tests holds
abbrev pub NoTestHolds : List RefusalTest → Type 0
NoTestHolds [] = ⊤
NoTestHolds (test ∷ rest) = (test.holds ≡ false) × NoTestHolds rest

-- some test holds, and `found` is the cause that the first of them gives
abbrev pub IsFirstCause : List RefusalTest → RefusalCause → Type 0
IsFirstCause [] found = ⊥
IsFirstCause (test ∷ rest) found = ((test.holds ≡ true) × (found ≡ test.cause)) ⊎ ((test.holds ≡ false) × IsFirstCause rest found)
