use Rattle.std.proofs.Common.{◌∙◌, sym, ap, arith, length}
use Rattle.std.proofs.lemmas.Bool.{le-leb, leb-true, lt-ltb, ltb-true}
use Rattle.arraystring_base.proofs.TextLaws.{width-is, width-bounds, utf8-one, length-utf8}
use Rattle.arraystring_core.proofs.array_string.ArrayString.has_room_for_char.Goals as goal

pub returns-then-is_ascii : goal.returns-then-is_ascii
returns-then-is_ascii g c =
    let narrow = sym (length-utf8 c.args.ch) ∙ ap length (utf8-one c.args.ch (ltb-true _ _ (sym c.is_ascii.ensures ∙ c.if-is_ascii.true))) in
    (λ is. let below = ltb-true _ _ is in omega arith, λ fits. lt-ltb _ _ (omega arith))

pub returns-then-len-capacity : goal.returns-then-len-capacity
returns-then-len-capacity g c =
    (λ is. omega (arith, width-bounds c.args.ch), λ fits. le-leb _ _ c.if-len-capacity.true)

pub returns-else-len-capacity : goal.returns-else-len-capacity
returns-else-len-capacity g c =
    let wide = width-is c.args.ch in
    (λ is. let within = leb-true _ _ is in omega arith, λ fits. le-leb _ _ (omega arith))
