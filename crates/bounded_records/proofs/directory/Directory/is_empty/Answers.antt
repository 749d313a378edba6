use Rattle.std.proofs.Common.{◌∙◌, ap, length, sym}
use Rattle.std.proofs.lemmas.List.{nil_from_length}
use Rattle.bounded_records.proofs.MapLemmas.{users_of, no_users}
use Rattle.bounded_records.proofs.directory.Directory.is_empty.Goals as goal

pub returns : goal.returns
returns c = (
  λ is. sym c.self.view_is ∙ ap users_of (nil_from_length _ (c.is_empty.ensures.0 is)),
  λ none. c.is_empty.ensures.1 (ap length (no_users _ (c.self.view_is ∙ none))),
)
