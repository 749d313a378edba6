use Rattle.std.proofs.Common.{◌≤◌, ◌+◌, sym, ◌∙◌, arith}
use Rattle.arraystring_core.proofs.DrainLemmas.{GivesLast, back-within, back-given}
use Rattle.arraystring_core.proofs.EndLemmas.{pushed-length}
use Rattle.arraystring_core.proofs.drain.traits.DrainDoubleEndedIterator.next_back.Given as given
use Rattle.arraystring_core.proofs.drain.traits.DrainDoubleEndedIterator.next_back.Goals as goal

pub returns-in_err-kept-clause-steps : goal.returns-in_err-kept-clause-steps
returns-in_err-kept-clause-steps g c =
    let left = c.args.self.now.left in
    let none = sym c.as_str.ensures.chars ∙ c.in_err-kept.ensures.none in
    rw c.from_residual.ensures (none, none)

within : (g : given.Over) (c : goal.In_ok-kept g) → c.self.inside.front + c.in_ok-kept.kept ≤ c.self.inside.size
within g c =
    rw (← c.in_ok-kept.ensures.some.2) (back-within c.self.invariant c.self.view_is _ _ (sym c.as_str.ensures.chars ∙ c.in_ok-kept.ensures.some.1))

pub overflow_cast-self : goal.overflow_cast-self
overflow_cast-self g c = omega (arith, within g c)

pub overflow_add-self : goal.overflow_add-self
overflow_add-self g c = omega (arith, within g c)

-- what is then left
gives : (g : given.Over) (c : goal.After-self-1 g)
    → GivesLast g.row.N c.self.inside.array c.self.inside.start (c.self.inside.front + c.in_ok-kept.kept) c.self.inside.front c.args.self.now.left c.in_ok-kept.ch
gives g c =
    rw (← c.in_ok-kept.ensures.some.2) (back-given c.self.invariant c.self.view_is _ _ (sym c.as_str.ensures.chars ∙ c.in_ok-kept.ensures.some.1))

pub invariant_of-self : goal.invariant_of-self
invariant_of-self g c = (gives g c).in_array

pub returns : goal.returns
returns g c =
    let rest = (gives g c).rest in
    record { steps = rest; goes = record { on = λ _. (tt, tt, omega (arith, pushed-length _ _ _ rest)); keeps = tt; rests = λ _. tt } }
