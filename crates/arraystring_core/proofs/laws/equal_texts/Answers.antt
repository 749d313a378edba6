use Rattle.std.proofs.Common.{ap, sym, ◌∙◌}
use Rattle.std.specs.Cmp.Lexicographic.{bytes_decides}
use Rattle.std.specs.Hash as fed
use Rattle.arraystring_base.specs.Text.{bytes}
use Rattle.arraystring_core.proofs.laws.equal_texts.Goals as goal
use Rattle.std.proofs.Common.{refl}

pub returns : goal.returns
returns c = record {
  same = bytes_decides;
  reflexive = λ a. (bytes_decides a a).1 refl;
  symmetric = λ a b h. (bytes_decides b a).1 (sym ((bytes_decides a b).0 h));
  transitive = λ a b c h k. (bytes_decides a c).1 ((bytes_decides a b).0 h ∙ (bytes_decides b c).0 k);
  hashed = λ a b h. ap (λ t. fed.str (bytes t)) ((bytes_decides a b).0 h);
}
