use Rattle.std.proofs.Common.{◌-◌, refl}
use Rattle.arraystring_base.specs.Text.{size, cap}
use Rattle.arraystring_core.specs.Edits.{addition_of_cut}
use Rattle.arraystring_core.proofs.EditLaws.{makes}
use Rattle.arraystring_core.proofs.TakenLaws.{chars-cut}
use Rattle.arraystring_core.proofs.array_string.ArrayString.extend_chars.Goals as goal

pub returns-clause-whole : goal.returns-clause-whole
returns-clause-whole g c = λ all gives.
    let old = c.args.self.now.text in
    let ensured = c.push_chars_until_full.ensures in
    let same = chars-cut g.I.IntoIterator.into_iter_gives g.I.IntoIter.Iterator.next_gives c.args.characters all gives ensured.0 (cap g.row.N - size old) ensured.1 in
    makes (addition_of_cut old all (cap g.row.N)) old tt c.push_chars_until_full.new.self.text refl refl (rw same at ensured.3)
