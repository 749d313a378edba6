use Rattle.std.proofs.Common.{arith, ◌<◌}
use Rattle.std.proofs.lemmas.List.Elements.{All-from_get_or}
use Rattle.arraystring_base.specs.Reading.{reading}
use Rattle.arraystring_base.proofs.ReadingLaws.{reading-only, reading-reads}
use Rattle.arraystring_base.proofs.laws.only_reading.Goals as goal

pub returns-clause-some : goal.returns-clause-some
returns-clause-some c =
    let units = c.args.units.now in
    (reading units, reading-reads units (All-from_get_or (λ u. u < 0x1_0000) units 0 (λ i lt. omega (arith, c.type_inv.units i))))

pub returns-clause-only : goal.returns-clause-only
returns-clause-only c = reading-only c.args.units.now
