use Rattle.std.proofs.Common.{arith}
use Rattle.std.proofs.lemmas.Result.{on_ok_weaker}
use Rattle.std.proofs.lemmas.Fmt.{contents_after_writes}
use Rattle.arraystring.specs.Text.{bytes}
use Rattle.arraystring.proofs.NumberLaws.{number-appended}
use Rattle.arraystring_recipes.proofs.numbers.write_number.Goals as goal

pub returns-else-is_err-clause-added : goal.returns-else-is_err-clause-added
returns-else-is_err-clause-added c =
    on_ok_weaker _ (number-appended _ _ c.args.number (omega arith))
    (on_ok_weaker _ (contents_after_writes _ (λ s. bytes s.text) (λ _ _ _ appended. appended) _ _ _) c.write-written.ensures.writes)
