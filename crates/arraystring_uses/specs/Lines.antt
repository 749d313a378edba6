-- What a line of the log says.
use Rattle.std.specs.Prelude.{ℕ, List, ◌++◌, codes}
use Rattle.arraystring_uses.specs.declared.log_line.Level.{Level}
use Rattle.arraystring_uses.specs.declared.log_line.Level.TheVariants.{Info, Warning, Failure}

-- how a line of this level begins
abbrev pub level_name : Level → List ℕ
level_name Info = codes "info: "
level_name Warning = codes "warning: "
level_name Failure = codes "failure: "

-- the whole line, with no cut
abbrev pub full_line : Level → List ℕ → List ℕ
full_line level message = level_name level ++ message
