use Rattle.std.proofs.Common.{arith, ◌<◌}
use Rattle.std.proofs.lemmas.List.Elements.{All-from_get_or}
use Rattle.arraystring_base.proofs.ReadingLaws.{reading-reads}
use Rattle.arraystring_base.proofs.utf16.Units.new.Goals as goal

pub returns : goal.returns
returns c =
    let units = c.args.units.now in
    reading-reads units (All-from_get_or (λ u. u < 0x1_0000) units 0 (λ i lt. omega (arith, c.type_inv.units i)))
