-- An error is printed under this name.
use Rattle.std.specs.Prelude.{List, ℕ, codes}
use Rattle.arraystring_base.specs.declared.error.Error.{Error}
use Rattle.arraystring_base.specs.declared.error.Error.TheVariants.{Utf8, Utf16, OutOfBounds}

-- the name of an error, which is that of its variant
abbrev pub error_name : Error → List ℕ
error_name Utf8 = codes "Utf8"
error_name Utf16 = codes "Utf16"
error_name OutOfBounds = codes "OutOfBounds"
