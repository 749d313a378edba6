-- A change of case changes the letters of ASCII, and no other characters.
use Rattle.std.specs.Prelude.{ℕ}
use Rattle.std.specs.Char.{to_ascii_uppercase, to_ascii_lowercase}
use Rattle.arraystring_core.specs.declared.array_string.ascii.Case.{Case}
use Rattle.arraystring_core.specs.declared.array_string.ascii.Case.TheVariants.{Upper, Lower}

-- the character in upper or in lower case if it is a letter of ASCII, and else the character as it is
abbrev pub to_case : Case → ℕ → ℕ
to_case Upper = to_ascii_uppercase
to_case Lower = to_ascii_lowercase
