use Rattle.std.proofs.Common.{◌-◌, refl}
use Rattle.arraystring_base.specs.Text.{size, cap}
use Rattle.arraystring_core.specs.Edits.{addition_of_cut}
use Rattle.arraystring_core.proofs.EditLaws.{makes}
use Rattle.arraystring_core.specs.Taken.{joined_texts}
use Rattle.arraystring_core.proofs.TakenLaws.{pieces-cut}
use Rattle.arraystring_core.proofs.array_string.ArrayString.extend_strs.Goals as goal

pub returns-clause-whole : goal.returns-clause-whole
returns-clause-whole g c = λ all gives.
    let old = c.args.self.now.text in
    let ensured = c.push_strs_until_full.ensures in
    let same = pieces-cut g.I.IntoIterator.into_iter_gives g.I.IntoIter.Iterator.next_gives c.args.pieces all gives ensured.0 (cap g.row.N - size old) ensured.1 in
    makes (addition_of_cut old (joined_texts all) (cap g.row.N)) old tt c.push_strs_until_full.new.self.text refl refl (rw same at ensured.3)
