use Rattle.std.proofs.Common.{◌∷◌, ◌++◌, [], ◌∙◌, ap, map}
use Rattle.std.proofs.lemmas.List.{map-append}
use Rattle.arraystring_run.specs.Effects.{view_of_reply}
use Rattle.arraystring_run.proofs.runs.execute_and_add_reply.Goals as goal

pub returns-clause-reply : goal.returns-clause-reply
returns-clause-reply g c =
    let done = c.args.replies.now.items in
    ap (map view_of_reply) c.push_reserved.ensures.items ∙ map-append view_of_reply done (c.execute.result ∷ [])
    ∙ ap (λ r. map view_of_reply done ++ r ∷ []) c.execute.ensures.reply

pub returns-clause-one_more : goal.returns-clause-one_more
returns-clause-one_more g c = c.push_reserved.ensures.len

pub returns-clause-room : goal.returns-clause-room
returns-clause-room g c = c.push_reserved.ensures.capacity
