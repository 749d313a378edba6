-- What is under a text in a map whose keys are strings.
use Rattle.std.specs.Prelude.{ℕ, List, Option}
use Rattle.std.specs.BTreeMap as tree
use Rattle.std.specs.HashMap as hash
use Rattle.std.specs.Ordering.{nat_cmp}
use Rattle.std.specs.Cmp.Lexicographic.{slice_cmp}
use Rattle.std.specs.Str.{bytes_eq}
use Rattle.arraystring.specs.Stored.{StringView}

-- the value under a text in a `BTreeMap`, if there is one
abbrev pub ordered_under : {V : Type 0} → tree.BTreeMap StringView V → List ℕ → Option V
ordered_under m t = tree.get_by (λ key. slice_cmp nat_cmp t key.text) m

-- the value under a text in a `HashMap`, if there is one
abbrev pub hashed_under : {V S : Type 0} → hash.HashMap StringView V S → List ℕ → Option V
hashed_under m t = hash.get_by (λ key. bytes_eq t key.text) m
