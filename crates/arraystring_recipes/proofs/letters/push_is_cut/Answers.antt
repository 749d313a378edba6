use Rattle.std.proofs.Common.{◌≤◌, ap, arith}
use Rattle.std.proofs.lemmas.Bool.Decides.{nat_tests}
use Rattle.std.specs.Str.{chars}
use Rattle.arraystring.specs.Text.{size}
use Rattle.arraystring.proofs.AdditionLaws.{addition_of_cut-cuts, addition_of_cut-less, addition_of_cut-makes}
use Rattle.arraystring.proofs.TextLaws.{size-append, size-borrowed}
use Rattle.arraystring_recipes.proofs.letters.push_is_cut.Goals as goal

-- the text has only become larger
pub overflow_sub-result : goal.overflow_sub-result
overflow_sub-result c = grind (arith, ap size (addition_of_cut-makes _ 16 c.push_str.ensures).1, size-append)

-- what is added is the cut, and it is less than all of `given` exactly if not all of it fits
pub returns-clause-text : goal.returns-clause-text
returns-clause-text c =
    let fits : size c.args.text.now.text ≤ 16 = omega arith in
    addition_of_cut-cuts _ 16 fits c.push_str.ensures

pub returns-clause-answer : goal.returns-clause-answer
returns-clause-answer c =
    let fits : size c.args.text.now.text ≤ 16 = omega arith in
    let added = (addition_of_cut-makes _ 16 c.push_str.ensures).1 in
    let less = addition_of_cut-less c.args.text.now.text (chars c.args.given.now) 16 fits in
    grind (arith, nat_tests, ap size added, less, size-append, size-borrowed c.utf8.given)
