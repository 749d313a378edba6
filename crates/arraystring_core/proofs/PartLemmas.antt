-- Where the part between two boundaries of a stored text is in the array.
use Rattle.std.proofs.Common.{◌≡◌, ℕ, ◌+◌, ◌-◌, ◌≤◌, ◌++◌, List, Ok, refl, ap, ◌∙◌, arith, true}
use Rattle.std.proofs.lemmas.Bool.{ltb-false}
use Rattle.arraystring_base.specs.Text.{size, front, back, boundary}
use Rattle.arraystring_base.proofs.BoundaryLaws.{boundary-in_front}
use Rattle.arraystring_core.specs.Stored.{StringView}
use Rattle.arraystring_core.specs.Layout.{string_in, MeetsStringInvariant}
use Rattle.arraystring_core.specs.Edits.{part, draining, first_cause, ok_unless_cause, Makes}
use Rattle.arraystring_core.proofs.StoredLaws.{opened-size}
use Rattle.arraystring_core.proofs.EditLaws.{makes, none-holds, inside-failed}
use Rattle.arraystring_core.proofs.CauseLemmas.{no_cause}
use Rattle.arraystring_core.proofs.SpanLemmas.{StoredAt, dropped, kept}

-- the part between two boundaries of a stored text, where it is in the array
module _ {array_size : ℕ} {array : List ℕ} {p n : ℕ} (is : MeetsStringInvariant array_size array p n) {v : StringView} (e : string_in array p n ≡ v)
    {start end : ℕ} (order : start ≤ end) (b : boundary v.text start ≡ true) (d : boundary v.text end ≡ true) where
  pub part_stored : StoredAt array_size array (p + start) (end - start) (part v.text start end)
  part_stored =
      let front_is = kept is e end d in
      let starts : boundary (string_in array p end).text start ≡ true =
      rw front_is.shown (boundary-in_front v.text start end order b) in
      let there = dropped front_is.in_array refl start starts in
      record { in_array = there.in_array; shown = there.shown ∙ ap (λ t. back t start) front_is.shown }

-- the part was not refused, and where the array holds it
pub record IsTakable (array_size : ℕ) (array : List ℕ) (p n : ℕ) (v : StringView) (start end : ℕ) : Type 0 where
  pub order : start ≤ end
  pub within : end ≤ n
  pub starts : boundary v.text start ≡ true
  pub ends : boundary v.text end ≡ true
  pub in_array : MeetsStringInvariant array_size array (p + start) (end - start)
  pub made : (left new : List ℕ) → left ≡ (string_in array (p + start) (end - start)).text → new ≡ front v.text start ++ back v.text end
      → Makes (draining v.text start end) v.text (Ok left) new

pub takable : {array_size : ℕ} {array : List ℕ} {p n : ℕ} → MeetsStringInvariant array_size array p n → {v : StringView} → string_in array p n ≡ v → (start end : ℕ)
    → Ok (tt {0}) ≡ ok_unless_cause (first_cause (draining v.text start end).tests) (tt {0}) → IsTakable array_size array p n v start end
takable is {v = v} e start end checked =
    let edit = draining v.text start end in
    let none = no_cause edit.tests checked in
    let each = none-holds edit.tests none in
    let order : start ≤ end = ltb-false end start each.0 in
    let reached : end ≤ size v.text = ltb-false (size v.text) end each.1.0 in
    let starts = inside-failed v.text start (omega arith) each.1.1.0 in
    let ends = inside-failed v.text end reached each.1.1.1.0 in
    record {
      order = order;
      within = omega (arith, opened-size is e);
      starts = starts;
      ends = ends;
      in_array = (part_stored is e order starts ends).in_array;
      made = λ left new same after. makes edit v.text left new none (same ∙ (part_stored is e order starts ends).shown) after;
    }
