use Rattle.arraystring.proofs.MapLaws.{keys-ascend}
use Rattle.arraystring.proofs.laws.keys_ascend.Goals as goal

pub returns : goal.returns
returns g c = keys-ascend _ c.len.ensures.ordered
