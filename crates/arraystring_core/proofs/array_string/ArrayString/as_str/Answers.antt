use Rattle.std.proofs.Common.{sym, ap, ◌∙◌, arith, chars}
use Rattle.arraystring_core.specs.GhostProofs.{stored-utf8}
use Rattle.arraystring_core.proofs.StoredLaws.{opened-bytes, opened-size, opened-text, text_spelled}
use Rattle.arraystring_core.proofs.array_string.ArrayString.as_str.Goals as goal

pub from_utf8_unchecked-requires : goal.from_utf8_unchecked-requires
from_utf8_unchecked-requires g c =
    rw c.part_of_length.ensures (stored-utf8 c.self.invariant)

pub returns : goal.returns
returns g c =
    let all = c.from_utf8_unchecked.ensures ∙ c.part_of_length.ensures ∙ sym (opened-bytes c.self.invariant c.self.view_is) in
    let text = opened-text c.self.invariant c.self.view_is in
    record {
      bytes = all;
      chars = ap chars all ∙ text_spelled _ text;
      text = text;
      fits = omega (arith, opened-size c.self.invariant c.self.view_is);
    }
