use Rattle.std.proofs.Common.{arith, rules}
use Rattle.arraystring_base.proofs.LastLemmas.{last_of, is-last, is-scalar}
use Rattle.arraystring_base.proofs.utf8.last_char_of_nonempty.Goals as goal

pub returns-then-last-lt128-clause-last : goal.returns-then-last-lt128-clause-last
returns-then-last-lt128-clause-last c =
    let last = last_of c.as_bytes-all.ensures.value c.utf8.text c.requires.some in
    rw (← c.as_bytes-all.ensures.value, c.from_u32_unchecked.ensures)
    (is-last last (omega (arith, last.ends)) _ (omega (arith, last.ends)))

pub overflow_sub-end-2 : goal.overflow_sub-end-2
overflow_sub-end-2 c = omega (arith, last_of c.as_bytes-all.ensures.value c.utf8.text c.requires.some)

pub overflow_sub-result-then-second-ge192 : goal.overflow_sub-result-then-second-ge192
overflow_sub-result-then-second-ge192 c = omega (arith, last_of c.as_bytes-all.ensures.value c.utf8.text c.requires.some)

pub returns-then-second-ge192-clause-last : goal.returns-then-second-ge192-clause-last
returns-then-second-ge192-clause-last c =
    let last = last_of c.as_bytes-all.ensures.value c.utf8.text c.requires.some in
    rw (← c.as_bytes-all.ensures.value, c.from_u32_unchecked-then-second-ge192.ensures)
    (is-last last (omega (arith, last.ends)) _ (omega (arith, last.ends)))

pub overflow_sub-end-3 : goal.overflow_sub-end-3
overflow_sub-end-3 c = omega (arith, last_of c.as_bytes-all.ensures.value c.utf8.text c.requires.some)

pub overflow_sub-code-then-third-ge192 : goal.overflow_sub-code-then-third-ge192
overflow_sub-code-then-third-ge192 c = omega (arith, last_of c.as_bytes-all.ensures.value c.utf8.text c.requires.some)

pub overflow_sub-code-then-third-ge192-2 : goal.overflow_sub-code-then-third-ge192-2
overflow_sub-code-then-third-ge192-2 c = omega (arith, last_of c.as_bytes-all.ensures.value c.utf8.text c.requires.some)

pub from_u32_unchecked-requires-then-third-ge192 : goal.from_u32_unchecked-requires-then-third-ge192
from_u32_unchecked-requires-then-third-ge192 c =
    let last = last_of c.as_bytes-all.ensures.value c.utf8.text c.requires.some in
    search (rules, last.ends, is-scalar last)

pub returns-then-third-ge192-clause-last : goal.returns-then-third-ge192-clause-last
returns-then-third-ge192-clause-last c =
    let last = last_of c.as_bytes-all.ensures.value c.utf8.text c.requires.some in
    rw (← c.as_bytes-all.ensures.value, c.from_u32_unchecked-then-third-ge192.ensures)
    (is-last last (omega (arith, last.ends)) _ (omega (arith, last.ends)))

pub overflow_sub-end-4 : goal.overflow_sub-end-4
overflow_sub-end-4 c = omega (arith, last_of c.as_bytes-all.ensures.value c.utf8.text c.requires.some)

pub overflow_sub-front : goal.overflow_sub-front
overflow_sub-front c = omega (arith, last_of c.as_bytes-all.ensures.value c.utf8.text c.requires.some)

pub overflow_sub-front-2 : goal.overflow_sub-front-2
overflow_sub-front-2 c = omega (arith, last_of c.as_bytes-all.ensures.value c.utf8.text c.requires.some)

pub overflow_sub-code-2 : goal.overflow_sub-code-2
overflow_sub-code-2 c = omega (arith, last_of c.as_bytes-all.ensures.value c.utf8.text c.requires.some)

pub overflow_sub-result-2 : goal.overflow_sub-result-2
overflow_sub-result-2 c = omega (arith, last_of c.as_bytes-all.ensures.value c.utf8.text c.requires.some)

pub from_u32_unchecked-requires-2 : goal.from_u32_unchecked-requires-2
from_u32_unchecked-requires-2 c =
    let last = last_of c.as_bytes-all.ensures.value c.utf8.text c.requires.some in
    search (rules, last.ends, is-scalar last)

pub returns-clause-last : goal.returns-clause-last
returns-clause-last c =
    let last = last_of c.as_bytes-all.ensures.value c.utf8.text c.requires.some in
    rw (← c.as_bytes-all.ensures.value, c.from_u32_unchecked-2.ensures)
    (is-last last (omega (arith, last.ends)) _ (omega (arith, last.ends)))

pub returns-then-second-ge192-clause-each : goal.returns-then-second-ge192-clause-each
returns-then-second-ge192-clause-each c = omega (arith, last_of c.as_bytes-all.ensures.value c.utf8.text c.requires.some)

pub returns-clause-each : goal.returns-clause-each
returns-clause-each c = omega (arith, last_of c.as_bytes-all.ensures.value c.utf8.text c.requires.some)
