use Rattle.std.proofs.Common.{◌≡◌, ◌≤◌, ◌++◌, codes, ap, ◌∙◌, refl, arith}
use Rattle.std.specs.Str.{chars}
use Rattle.arraystring.specs.Text.{size, cut}
use Rattle.arraystring.proofs.AdditionLaws.{addition_of_cut-cuts, insertion_at_start-made}
use Rattle.arraystring.proofs.CharacterLaws.{chars-ascii, width-one}
use Rattle.arraystring_uses.proofs.greeting.greet.Goals as goal

-- before `push_str` the text is `@` and the name; then it is the cut of that and the message
pub returns-clause-text : goal.returns-clause-text
returns-clause-text c =
    let put = insertion_at_start-made _ 20 c.in_ok-try_insert_str.ensures in
    let t = c.try_insert_str.new.self.text in
    let same : t ≡ codes "@" ++ chars c.args.name.now = grind (arith, put.1, chars-ascii (codes "@") refl, c.in_ok-greeting.ensures.1) in
    let fits : size t ≤ 20 = grind (arith, put, chars-ascii (codes "@") refl, width-one 64) in
    rw same at (addition_of_cut-cuts _ 20 fits c.push_str.ensures)
    ∙ ap (λ l. cut (codes "@" ++ (chars c.args.name.now ++ l)) 20) (chars-ascii (codes ", welcome back") refl)
