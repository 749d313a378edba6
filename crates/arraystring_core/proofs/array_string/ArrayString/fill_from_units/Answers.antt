use Rattle.std.proofs.Common.{◌+◌, ◌<◌, [], ◌∷◌, ◌++◌, map, sym, ap, ◌∙◌, arith, append-nil, append_assoc, Some}
use Rattle.std.proofs.lemmas.List.{map-append}
use Rattle.arraystring_base.specs.declared.utf16.Unit16.TheVariants.{Char}
use Rattle.arraystring_base.specs.Text.{cap, size, width}
use Rattle.arraystring_base.specs.Utf16.{End, Fault, Full}
use Rattle.arraystring_base.proofs.TextLaws.{size-append}
use Rattle.arraystring_base.proofs.Utf16Laws.{stop-is}
use Rattle.arraystring_core.specs.FromUtf16.{stop_before_item}
use Rattle.arraystring_core.proofs.EditLaws.{addition-made, addition-refused}
use Rattle.arraystring_core.proofs.array_string.ArrayString.fill_from_units.Goals as goal

pub loop-item-preserved : goal.loop-item-preserved
loop-item-preserved g c =
    let prefix = c.loop-item.self.text in
    let ch = c.in-Char.ch in
    let left = c.next.new.self in
    let added = addition-made (ch ∷ []) (cap g.row.N) c.in-Ok.ensures in
    let first = c.in-Some.ensures.steps ∙ ap (λ item. item ∷ left) c.in-Char.is in
    record {
      fits = omega (arith, added, ap size added.1, size-append prefix (ch ∷ []));
      read = λ items is.
          c.loop-item.invariant.read items is ∙ ap (λ l. map Char prefix ++ l) first
          ∙ sym (append_assoc (map Char prefix) (Char ch ∷ []) left) ∙ ap (λ l. l ++ left) (sym (map-append Char prefix (ch ∷ []))) ∙ ap (λ l. map Char l ++ left) (sym added.1);
    }

pub returns-in-Err : goal.returns-in-Err
returns-in-Err g c = λ items is.
    let inv = c.loop-item.invariant in
    let prefix = c.loop-item.self.text in
    let ch = c.in-Char.ch in
    let left = c.next.new.self in
    let refused = addition-refused (ch ∷ []) (cap g.row.N) c.in-Err.ensures in
    let past : cap g.row.N < size prefix + width ch = omega (arith, refused.0) in
    let first = c.in-Some.ensures.steps ∙ ap (λ item. item ∷ left) c.in-Char.is in
    stop-is items (cap g.row.N) (Full prefix)
    (ch, left, inv.read items is ∙ ap (λ l. map Char prefix ++ l) first, inv.fits, past)
    ∙ ap Full (sym refused.2)

pub returns-in-Lone : goal.returns-in-Lone
returns-in-Lone g c = λ items is.
    let inv = c.loop-item.invariant in
    let prefix = c.loop-item.self.text in
    let left = c.next.new.self in
    let first = c.in-Some.ensures.steps ∙ ap (λ item. item ∷ left) c.in-Lone.is in
    stop-is items (cap g.row.N) (Fault prefix)
    (c.in-Lone.field-0, left, inv.read items is ∙ ap (λ l. map Char prefix ++ l) first, inv.fits)
    ∙ ap (λ item. stop_before_item (Some item) prefix) (sym c.in-Lone.is)

pub returns : goal.returns
returns g c = λ items is.
    let inv = c.loop-item.invariant in
    let prefix = c.loop-item.self.text in
    let whole = ap (λ l. map Char prefix ++ l) c.in-None.ensures.steps.0 ∙ append-nil (map Char prefix) in
    stop-is items (cap g.row.N) (End prefix) (inv.read items is ∙ whole, inv.fits)
