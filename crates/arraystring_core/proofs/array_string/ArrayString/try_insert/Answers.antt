use Rattle.std.proofs.Common.{◌≡◌, ◌∷◌, [], Ok, arith, refl, rules}
use Rattle.arraystring_base.specs.Text.{cap, size}
use Rattle.arraystring_base.proofs.TextLaws.{width-is}
use Rattle.arraystring_core.specs.Edits.{insertion, first_cause, ok_unless_cause}
use Rattle.arraystring_core.proofs.CauseLemmas.{takes_in, no_cause}
use Rattle.arraystring_core.proofs.EditLaws.{makes}
use Rattle.arraystring_core.proofs.array_string.ArrayString.try_insert.Goals as goal

pub returns-in_err-check_insertion : goal.returns-in_err-check_insertion
returns-in_err-check_insertion g c =
    let wide : size (c.args.ch ∷ []) ≡ c.len_utf8.result = omega (arith, width-is c.args.ch) in
    rw wide (search rules)

pub insert_char_at_boundary-requires : goal.insert_char_at_boundary-requires
insert_char_at_boundary-requires g c =
    let is = takes_in _ _ _ _ c.in_ok-check_insertion.ensures in
    (search rules, (is.1, omega (arith, width-is c.args.ch)))

pub returns : goal.returns
returns g c =
    let wide : size (c.args.ch ∷ []) ≡ c.len_utf8.result = omega (arith, width-is c.args.ch) in
    let row = insertion c.args.self.now.text c.args.index (c.args.ch ∷ []) (cap g.row.N) in
    let is : Ok (tt {0}) ≡ ok_unless_cause (first_cause row.tests) (tt {0}) = rw wide c.in_ok-check_insertion.ensures in
    makes row _ _ _ (no_cause row.tests is) refl c.insert_char_at_boundary.ensures
