use Rattle.std.proofs.Common.{◌∙◌, refl, rules}
use Rattle.arraystring_base.proofs.BoundaryLaws.{front-start, boundary-is}
use Rattle.arraystring_core.specs.Edits.{clearing}
use Rattle.arraystring_core.proofs.EditLaws.{makes}
use Rattle.std.proofs.Common.{[]}
use Rattle.arraystring_core.proofs.array_string.ArrayString.clear.Goals as goal

pub set_len-requires : goal.set_len-requires
set_len-requires g c = (search rules, boundary-is [] c.args.self.now.text 0 refl)

pub returns : goal.returns
returns g c = makes clearing c.args.self.now.text tt _ refl refl (c.set_len.ensures ∙ front-start c.args.self.now.text)
