use Rattle.arraystring_base.proofs.ReadingLaws.{text-reading}
use Rattle.arraystring_base.proofs.laws.text_units_read_as_text.Goals as goal

pub returns : goal.returns
returns c = text-reading
