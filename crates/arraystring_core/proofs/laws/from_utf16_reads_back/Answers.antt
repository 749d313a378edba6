use Rattle.std.proofs.Common.{◌∙◌, ap, map, refl, subst}
use Rattle.arraystring_base.specs.declared.utf16.Unit16.TheVariants.{Char}
use Rattle.arraystring_base.specs.Text.{cut}
use Rattle.arraystring_base.proofs.CutLaws.{cut-all}
use Rattle.arraystring_base.specs.Utf16.{End, lossy_text}
use Rattle.arraystring_base.proofs.ReadingLaws.{text-reading}
use Rattle.arraystring_base.proofs.Utf16Laws.{stop-is, lossy_text-characters}
use Rattle.arraystring_core.specs.FromUtf16.{GivesWholeOrError, GivesPrefixOrFault}
use Rattle.arraystring_core.proofs.laws.from_utf16_reads_back.Goals as goal

pub returns-clause-reading : goal.returns-clause-reading
returns-clause-reading c = λ t is. (map Char t, (text-reading t (map Char t) is).1 refl)

pub returns-clause-whole : goal.returns-clause-whole
returns-clause-whole c = λ t n items result is fits reads gives.
    let same = (text-reading t items is).0 reads in
    subst (λ stop. GivesWholeOrError stop result) (stop-is items n (End t) (same, fits)) gives

pub returns-clause-prefix : goal.returns-clause-prefix
returns-clause-prefix c = λ t n items result is fits reads gives.
    let same = (text-reading t items is).0 reads in
    subst (λ stop. GivesPrefixOrFault stop result) (stop-is items n (End t) (same, fits)) gives

pub returns-clause-lossy : goal.returns-clause-lossy
returns-clause-lossy c = λ t n items is fits reads.
    let same = (text-reading t items is).0 reads in
    ap (λ l. cut l n) (ap lossy_text same ∙ lossy_text-characters t) ∙ cut-all fits
