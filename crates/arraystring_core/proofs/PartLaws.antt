-- Laws of the part of a text between two boundaries.
use Rattle.std.proofs.Common.{◌≡◌, ℕ, ◌-◌, ◌≤◌, List, ◌++◌, append_assoc, refl, sym, ap, ◌∙◌, true, Some}
use Rattle.std.proofs.lemmas.Bool.{le-leb}
use Rattle.arraystring_base.specs.Text.{size, front, back, boundary}
use Rattle.arraystring_base.proofs.CutLaws.{cut-cut}
use Rattle.arraystring_base.proofs.BoundaryLaws.{front-back, front-size, back-size, boundary-in_front}
use Rattle.arraystring_core.specs.Edits.{part, checked_part}

module _ (t : List ℕ) (start end : ℕ) (order : start ≤ end) where
  -- what is before a part, the part and what is after it are the text
  pub part-joined : front t start ++ (part t start end ++ back t end) ≡ t
  part-joined =
      let f = front t end in
      ap (λ l. l ++ (part t start end ++ back t end)) (sym (cut-cut t order))
      ∙ sym (append_assoc (front f start) (part t start end) (back t end))
      ∙ ap (λ l. l ++ back t end) (front-back f start) ∙ front-back t end

  -- the part has as many bytes as lie between its ends
  pub part-size : boundary t start ≡ true → boundary t end ≡ true → size (part t start end) ≡ end - start
  part-size starts ends =
      back-size (front t end) start (boundary-in_front t start end order starts) ∙ ap (λ k. k - start) (front-size t end ends)

  -- a range between two boundaries has its part
  pub checked_part-some : boundary t start ≡ true → boundary t end ≡ true → checked_part t start end ≡ Some (part t start end)
  checked_part-some starts ends = rw (le-leb start end order, starts, ends) refl
