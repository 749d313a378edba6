use Rattle.std.proofs.Common.{◌≤◌, ◌-◌, ◌++◌, length, sym, ap, ◌∙◌, arith, chars}
use Rattle.std.proofs.lemmas.List.{nil_from_length}
use Rattle.std.proofs.lemmas.Str.{chars-nil}
use Rattle.std.specs.Char.{encode_utf8}
use Rattle.arraystring_core.proofs.DrainLemmas.{GivesFirst, given-within, none-left, first-given, decoded-within, decoded}
use Rattle.arraystring_core.proofs.drain.traits.DrainIterator.next.Given as given
use Rattle.arraystring_core.proofs.drain.traits.DrainIterator.next.Goals as goal

pub returns-then-self-clause-steps : goal.returns-then-self-clause-steps
returns-then-self-clause-steps g c =
    let none = none-left c.self.invariant c.self.view_is (omega arith) in
    (none, none)

pub byte-first-requires : goal.byte-first-requires
byte-first-requires g c = omega (arith, given-within c.self.invariant)

pub overflow_add-self : goal.overflow_add-self
overflow_add-self g c = omega (arith, given-within c.self.invariant)

pub invariant_of-self : goal.invariant_of-self
invariant_of-self g c = (first-given c.self.invariant c.self.view_is (omega (arith, given-within c.self.invariant)) c.byte-first.ensures c.if-first-lt128.true).in_array

pub returns-then-first-lt128 : goal.returns-then-first-lt128
returns-then-first-lt128 g c =
    let given = first-given c.self.invariant c.self.view_is (omega (arith, given-within c.self.invariant)) c.byte-first.ensures c.if-first-lt128.true in
    record { steps = given.rest; goes = record { on = λ _. (tt, tt, omega (arith, ap length given.rest)); keeps = tt; rests = λ _. tt } }

pub returns-in_err-ch-clause-steps : goal.returns-in_err-ch-clause-steps
returns-in_err-ch-clause-steps g c =
    let left = c.args.self.now.left in
    let borrowed = c.as_str.ensures.chars in
    let over = nil_from_length c.chars-left.result.rest.now c.in_err-ch.ensures.steps.0.0 in
    let none = sym borrowed ∙ ap chars (sym c.chars-left.ensures.rest ∙ over) ∙ chars-nil in
    rw c.from_residual.ensures (none, none)

within : (g : given.Over) (c : goal.After-as_str-2 g) → length c.as_str-2.result.now ≤ c.self.inside.size
within g c =
    decoded-within c.self.invariant c.self.view_is c.as_str.utf8 c.as_str.ensures.bytes _ c.as_str-2.utf8
    (sym c.chars-left.ensures.rest ∙ c.in_ok-ch.ensures.steps.0 ∙ ap (λ l. encode_utf8 c.in_ok-ch.ch ++ l) (sym c.as_str-2.ensures))

pub overflow_cast-self : goal.overflow_cast-self
overflow_cast-self g c = omega (arith, within g c)

pub overflow_sub-self : goal.overflow_sub-self
overflow_sub-self g c = within g c

-- what is then left
gives : (g : given.Over) (c : goal.After-self-2-1 g)
    → GivesFirst g.row.N c.self.inside.array c.self.inside.start c.self.inside.size (c.self.inside.size - length c.as_str-2.result.now) c.args.self.now.left c.in_ok-ch.ch
gives g c =
    decoded c.self.invariant c.self.view_is c.as_str.utf8 c.as_str.ensures.bytes _ c.as_str-2.utf8
    (sym c.chars-left.ensures.rest ∙ c.in_ok-ch.ensures.steps.0 ∙ ap (λ l. encode_utf8 c.in_ok-ch.ch ++ l) (sym c.as_str-2.ensures))

pub invariant_of-self-2 : goal.invariant_of-self-2
invariant_of-self-2 g c = (gives g c).in_array

pub returns : goal.returns
returns g c =
    let rest = (gives g c).rest in
    record { steps = rest; goes = record { on = λ _. (tt, tt, omega (arith, ap length rest)); keeps = tt; rests = λ _. tt } }
