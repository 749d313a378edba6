-- A username and a role make no user if one of them is too large.
use Rattle.std.specs.Prelude.{ℕ, ◌<◌, ◌≤◌, List}
use Rattle.arraystring.specs.Text.{size}
use Rattle.bounded_records.specs.declared.user.UserFault.{UserFault}
use Rattle.bounded_records.specs.declared.user.UserFault.TheVariants.{Username, Role}

-- the fault names the first of the two texts that is too large: a username of more than 20 bytes, or a role of more than 5
abbrev pub IsFirstTooLarge : List ℕ → List ℕ → UserFault → Type 0
IsFirstTooLarge username role Username = 20 < size username
IsFirstTooLarge username role Role = (size username ≤ 20) × (5 < size role)
