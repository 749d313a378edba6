use Rattle.std.proofs.Common.{subst, sym}
use Rattle.arraystring_base.specs.Text.{IsLongestFitting}
use Rattle.arraystring_base.proofs.CutLaws.{cut-all, cut-is_longest, longest-is_cut}
use Rattle.arraystring_base.proofs.laws.longest_cut.Goals as goal

pub returns : goal.returns
returns c = record {
  longest = λ t p n. (λ e. subst (λ q. IsLongestFitting q t n) (sym e) (cut-is_longest t n), longest-is_cut);
  whole = λ t n fits. cut-all fits;
}
