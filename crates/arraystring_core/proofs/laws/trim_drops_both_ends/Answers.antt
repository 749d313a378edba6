use Rattle.std.specs.Prelude.{IsTrue, reverse}
use Rattle.arraystring_core.specs.Edits.{without_trailing}
use Rattle.arraystring_core.proofs.TrimLemmas.{leading, All-reverse, trimmed-parts, trailing-bare}
use Rattle.arraystring_core.proofs.laws.trim_drops_both_ends.Goals as goal

pub returns-clause-dropped : goal.returns-clause-dropped
returns-clause-dropped c = λ passes t.
    let start = leading passes (without_trailing passes t) in
    let end = leading passes (reverse t) in
    (start.dropped, reverse end.dropped, start.pass, All-reverse (λ c. IsTrue (passes c)) _ end.pass, trimmed-parts passes t)

pub returns-clause-bare : goal.returns-clause-bare
returns-clause-bare c = λ passes t. ((leading passes (without_trailing passes t)).bare, trailing-bare passes t)
