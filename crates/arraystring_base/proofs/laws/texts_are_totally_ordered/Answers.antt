use Rattle.arraystring_base.proofs.OrderLaws.{before-total, before-trans, before-itself}
use Rattle.arraystring_base.proofs.laws.texts_are_totally_ordered.Goals as goal

pub returns : goal.returns
returns c = record { total = before-total; transitive = before-trans; itself = before-itself }
