use Rattle.std.proofs.Common.{◌≡◌, ◌≤◌, ◌++◌, List, map}
use Rattle.arraystring_base.specs.declared.utf16.Unit16.{Unit16}
use Rattle.arraystring_base.specs.declared.utf16.Unit16.TheVariants.{Char}
use Rattle.arraystring_base.specs.Text.{size, cap}
use Rattle.arraystring_base.specs.Utf16.{IsReading}
use Rattle.arraystring_core.proofs.array_string.ArrayString.fill_from_units.Given as goal

abbrev pub invariant-loop-item : goal.invariant-loop-item
invariant-loop-item g l = record {
  fits : size l.self.text ≤ cap g.row.N;
  read : (items : List Unit16) → IsReading l.units items → items ≡ map Char l.self.text ++ l.item-iterator;
}
