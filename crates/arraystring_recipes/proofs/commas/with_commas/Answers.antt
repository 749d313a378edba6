use Rattle.std.proofs.Common.{arith}
use Rattle.std.proofs.lemmas.Iterator.{YieldsList-from_chars}
use Rattle.std.proofs.lemmas.Iterator.Consumers.{YieldsList-from_enumerate}
use Rattle.arraystring.proofs.AdditionLaws.{addition-refused}
use Rattle.arraystring.proofs.LoopLaws.{pieces-all, pieces-more}
use Rattle.arraystring_recipes.specs.Commas.{piece}
use Rattle.arraystring_recipes.proofs.commas.with_commas.Goals as goal

-- the pieces so far and the next one did not fit, and the whole begins with them
pub returns-in_err-push_piece : goal.returns-in_err-push_piece
returns-in_err-push_piece g c =
    let all = YieldsList-from_enumerate (YieldsList-from_chars c.args.text.now c.utf8.text cc) cc in
    let more = pieces-more all _ c.loop-index.yielded_by piece c.in-Some.is c.next.ensures.steps in
    grind (arith, more, addition-refused _ _ c.in_err-push_piece.ensures, c.from_residual.ensures)

-- at the end the pieces so far are all
pub returns : goal.returns
returns g c =
    let all = YieldsList-from_enumerate (YieldsList-from_chars c.args.text.now c.utf8.text cc) cc in
    grind (arith, pieces-all all _ c.loop-index.yielded_by piece c.in-None.is c.next.ensures.steps)
