use Rattle.std.proofs.Common.{arith, rules}
use Rattle.arraystring_core.proofs.StoredLaws.{opened-within}
use Rattle.arraystring_core.proofs.AsciiLemmas.{case-change, changed}
use Rattle.arraystring_core.proofs.array_string.ArrayString.change_case_of_part.Goals as goal

pub overflow_add-offset : goal.overflow_add-offset
overflow_add-offset g c = omega (arith, opened-within c.self.invariant c.self.view_is _ c.requires.start)

pub overflow_add-offset-2 : goal.overflow_add-offset-2
overflow_add-offset-2 g c = omega (arith, opened-within c.self.invariant c.self.view_is _ c.requires.end)

pub change_case_between-requires : goal.change_case_between-requires
change_case_between-requires g c =
    (search rules, (omega arith, omega (arith, opened-within c.self.invariant c.self.view_is _ c.requires.end)))

pub invariant_of-self : goal.invariant_of-self
invariant_of-self g c = (changed (case-change c.args.case) c.self.invariant c.self.view_is c.requires.order c.requires.start c.requires.end c.change_case_between.ensures).in_array

pub returns : goal.returns
returns g c = (changed (case-change c.args.case) c.self.invariant c.self.view_is c.requires.order c.requires.start c.requires.end c.change_case_between.ensures).shown
