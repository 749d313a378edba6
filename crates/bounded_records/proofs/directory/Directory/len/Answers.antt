use Rattle.std.proofs.Common.{◌∙◌, ap, sym}
use Rattle.std.specs.FinMap as finite
use Rattle.bounded_records.proofs.MapLemmas.{len_users, len_keys}
use Rattle.bounded_records.proofs.directory.Directory.len.Goals as goal

pub returns-clause-len : goal.returns-clause-len
returns-clause-len c = c.len.ensures.len ∙ sym (len_users _ c.len.ensures.ordered) ∙ ap finite.len c.self.view_is

pub returns-clause-names : goal.returns-clause-names
returns-clause-names c =
    c.len.ensures.len ∙ sym (len_users _ c.len.ensures.ordered) ∙ ap finite.len c.self.view_is ∙ sym (len_keys c.args.self.now)
