use Rattle.std.proofs.Common.{◌++◌, ap, ◌∙◌, chars}
use Rattle.arraystring_base.specs.Text.{bytes}
use Rattle.arraystring_base.proofs.TextLaws.{bytes-append, bytes-chars}
use Rattle.arraystring_core.proofs.array_string.traits.ArrayStringWrite.write_str.Goals as goal

pub returns-in-Ok-clause-ok : goal.returns-in-Ok-clause-ok
returns-in-Ok-clause-ok g c _ =
    let t = c.args.self.now.text in
    let added = rw c.in-Ok.is at c.try_push_str.ensures.ok in
    ap bytes added ∙ bytes-append t (chars c.args.string.now)
    ∙ ap (λ l. bytes t ++ l) (bytes-chars c.utf8.string)
