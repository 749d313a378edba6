use Rattle.arraystring_base.proofs.BoundaryLaws.{boundary-bytes}
use Rattle.arraystring_base.proofs.utf8.is_boundary.Goals as goal

pub returns : goal.returns
returns c = boundary-bytes c.args.text.now c.args.at c.is_char_boundary.result c.utf8.text c.is_char_boundary.ensures.test
