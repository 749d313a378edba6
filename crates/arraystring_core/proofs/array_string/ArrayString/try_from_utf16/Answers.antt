use Rattle.std.proofs.Common.{◌≡◌, ℕ, ◌<◌, List, [], ◌∷◌, ◌++◌, map, refl, sym, ap, ◌∙◌, arith}
use Rattle.std.proofs.lemmas.List.Elements.{All-from_get_or}
use Rattle.arraystring_base.specs.declared.utf16.Unit16.{Unit16}
use Rattle.arraystring_base.specs.declared.utf16.Unit16.TheVariants.{Char}
use Rattle.arraystring_base.specs.Text.{cap}
use Rattle.arraystring_base.specs.Utf16.{IsReading, End, first_stop, joined_units, text_units, utf16}
use Rattle.arraystring_base.specs.Reading.{reading}
use Rattle.arraystring_base.proofs.ReadingLaws.{reading-reads}
use Rattle.arraystring_base.proofs.Utf16Laws.{first_stop-is}
use Rattle.arraystring_core.specs.FromUtf16.{stop_before_item}
use Rattle.arraystring_core.proofs.array_string.ArrayString.try_from_utf16.Goals as goal

joined-characters : (t : List ℕ) → joined_units (map Char t) ≡ text_units t
joined-characters [] = refl
joined-characters (c ∷ cs) = ap (λ l. utf16 c ++ l) (joined-characters cs)

-- the units of a text at which a reading ends
units-read : (units : List ℕ) (items : List Unit16) (n : ℕ) (t : List ℕ) → IsReading units items → first_stop items n ≡ End t
    → text_units t ≡ units
units-read units items n t is ends =
    sym (is.joined ∙ ap joined_units ((first_stop-is items n (End t)).1 ends).0 ∙ joined-characters t)

pub returns-in-None-clause-units : goal.returns-in-None-clause-units
returns-in-None-clause-units g c =
    let units = c.args.units.now in
    let is = reading-reads units (All-from_get_or (λ u. u < 0x1_0000) units 0 (λ i lt. omega (arith, c.type_inv.units i))) in
    let text = c.fill_from_units.new.self.text in
    units-read units (reading units) (cap g.row.N) text is (c.fill_from_units.ensures (reading units) is ∙ ap (λ item. stop_before_item item text) c.in-None.is)
