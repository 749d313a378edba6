use Rattle.std.proofs.Common.{length, ap, arith, rules}
use Rattle.arraystring_base.proofs.TextLaws.{size-borrowed}
use Rattle.arraystring_core.proofs.SpanLemmas.{made}
use Rattle.arraystring_core.proofs.array_string.ArrayString.from_str_unchecked.Goals as goal

pub write_by_call-requires : goal.write_by_call-requires
write_by_call-requires g c =
    (search rules, omega (arith, size-borrowed c.utf8.string, ap length c.as_bytes.ensures.value))

pub overflow_cast-result : goal.overflow_cast-result
overflow_cast-result g c = omega (arith, size-borrowed c.utf8.string)

pub invariant_of-result : goal.invariant_of-result
invariant_of-result g c =
    (made c.utf8.string (omega (arith, size-borrowed c.utf8.string)) (rw c.as_bytes.ensures.value at c.write_by_call.ensures)).in_array

pub returns : goal.returns
returns g c =
    (made c.utf8.string (omega (arith, size-borrowed c.utf8.string)) (rw c.as_bytes.ensures.value at c.write_by_call.ensures)).shown
