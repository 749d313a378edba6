-- What stands for a character in a line of ASCII.
use Rattle.std.specs.Prelude.{ℕ, if◌then◌else◌, nat_lt}

-- the character itself, if it is one of ASCII, and else `?`
abbrev pub plain : ℕ → ℕ
plain c = if nat_lt c 128 then c else 0x3F
