use Rattle.std.proofs.Common.{sym, ◌∙◌, ap, arith, length}
use Rattle.arraystring_base.proofs.TextLaws.{size-is}
use Rattle.arraystring_core.proofs.StoredLaws.{opened-bytes, opened-size, opened-text}
use Rattle.arraystring_core.proofs.array_string.ArrayString.as_bytes.Goals as goal

pub returns-clause-bytes : goal.returns-clause-bytes
returns-clause-bytes g c =
    c.part_of_length.ensures ∙ sym (opened-bytes c.self.invariant c.self.view_is)

pub returns-clause-len : goal.returns-clause-len
returns-clause-len g c = ap length (returns-clause-bytes g c) ∙ sym (size-is c.args.self.now.text)

pub returns-clause-text : goal.returns-clause-text
returns-clause-text g c = opened-text c.self.invariant c.self.view_is

pub returns-clause-fits : goal.returns-clause-fits
returns-clause-fits g c =
    omega (arith, opened-size c.self.invariant c.self.view_is)
