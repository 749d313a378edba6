-- A table of points under names, as contracts see it: by the texts of the names.
use Rattle.std.specs.Prelude.{ℕ, List, Option, map}
use Rattle.std.specs.BTreeMap.{BTreeMap, get_by, keys}
use Rattle.std.specs.Ordering.{nat_cmp}
use Rattle.std.specs.Cmp.Lexicographic.{slice_cmp}
use Rattle.arraystring.specs.Stored.{StringView}

-- the names, in the order of the table
abbrev pub names : BTreeMap StringView ℕ → List (List ℕ)
names scores = map (λ name. name.text) (keys scores)

-- the points under the name with this text
abbrev pub points : BTreeMap StringView ℕ → List ℕ → Option ℕ
points scores text = get_by (λ name. slice_cmp nat_cmp text name.text) scores
