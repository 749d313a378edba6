use Rattle.std.proofs.Common.{◌≡◌, ◌≤◌, ◌++◌, List}
use Rattle.arraystring_base.specs.declared.utf16.Unit16.{Unit16}
use Rattle.arraystring_base.specs.Text.{size, cap}
use Rattle.arraystring_base.specs.Utf16.{IsReading, lossy_text}
use Rattle.arraystring_core.proofs.array_string.ArrayString.from_utf16_lossy.Given as goal

abbrev pub invariant-loop-item : goal.invariant-loop-item
invariant-loop-item g l = record {
  fits : size l.made.text ≤ cap g.row.N;
  read : (items : List Unit16) → IsReading l.units items → lossy_text items ≡ l.made.text ++ lossy_text l.item-iterator;
}
