use Rattle.std.proofs.Common.{◌≡◌, ◌+◌, ◌<◌, [], ◌∷◌, ◌++◌, sym, ap, ◌∙◌, arith, append-nil, append_assoc}
use Rattle.arraystring_base.specs.Text.{cap, cut, size, width}
use Rattle.arraystring_base.proofs.TextLaws.{size-append}
use Rattle.arraystring_base.proofs.CutLaws.{cut-is, cut-all}
use Rattle.arraystring_base.specs.Utf16.{lossy_text}
use Rattle.arraystring_core.proofs.EditLaws.{addition-made, addition-refused}
use Rattle.arraystring_core.proofs.array_string.ArrayString.from_utf16_lossy.Goals as goal

pub loop-item-preserved : goal.loop-item-preserved
loop-item-preserved g c =
    let text = c.loop-item.made.text in
    let ch = c.char_or_replacement.result in
    let left = lossy_text c.next.new.self in
    let added = addition-made (ch ∷ []) (cap g.row.N) c.in-Ok.ensures in
    let first = ap lossy_text c.in-Some.ensures.steps ∙ ap (λ d. d ∷ left) (sym c.char_or_replacement.ensures) in
    record {
      fits = omega (arith, added, ap size added.1, size-append text (ch ∷ []));
      read = λ items is.
          c.loop-item.invariant.read items is ∙ ap (λ l. text ++ l) first ∙ sym (append_assoc text (ch ∷ []) left)
          ∙ ap (λ l. l ++ left) (sym added.1);
    }

pub loop-item-init : goal.loop-item-init
loop-item-init g c = record {
  fits = omega (arith, ap size c.new-made.ensures);
  read = λ items is.
      ap lossy_text (c.only_reading.ensures.only _ _ is c.new-item-items.ensures)
      ∙ grind (arith, c.into_iter-item-iterator.ensures.into_iter_gives, c.new-made.ensures);
}

pub returns-in-None : goal.returns-in-None
returns-in-None g c = λ items is.
    let inv = c.loop-item.invariant in
    let text = c.loop-item.made.text in
    let whole = ap (λ l. text ++ lossy_text l) c.in-None.ensures.steps.0 ∙ append-nil text in
    sym (ap (λ l. cut l (cap g.row.N)) (inv.read items is ∙ whole) ∙ cut-all inv.fits)

pub returns-in-Err : goal.returns-in-Err
returns-in-Err g c = λ items is.
    let inv = c.loop-item.invariant in
    let n = cap g.row.N in
    let text = c.loop-item.made.text in
    let ch = c.char_or_replacement.result in
    let left = lossy_text c.next.new.self in
    let refused = addition-refused (ch ∷ []) n c.in-Err.ensures in
    let past : n < size text + width ch = omega (arith, refused.0) in
    let first = ap lossy_text c.in-Some.ensures.steps ∙ ap (λ d. d ∷ left) (sym c.char_or_replacement.ensures) in
    let ends = cut-is text (ch ∷ left) n inv.fits (λ d es e. let one : ch ≡ d = cc in rw (← one) past) in
    refused.2 ∙ sym (ap (λ l. cut l n) (inv.read items is ∙ ap (λ l. text ++ l) first) ∙ ends)
