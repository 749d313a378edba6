-- Laws of numbers in decimal, as `write!` writes them.
use Rattle.std.proofs.Common.{◌≡◌, ℕ, ◌<◌, ◌^◌, List, ◌++◌, arith, ap, sym, ◌∙◌}
use Rattle.std.specs.Fmt.{decimal}
use Rattle.arraystring_base.specs.Text.{bytes}
use Rattle.arraystring_base.proofs.TextLaws.{bytes-append, bytes_same}
use Rattle.arraystring.proofs.DigitLaws.{bytes-decimal}

-- the bytes of the digits were appended, and so the digits were
pub number-appended : (old new : List ℕ) (n : ℕ) → n < 2 ^ 64 → bytes new ≡ bytes old ++ decimal n → new ≡ old ++ decimal n
number-appended old new n small is =
    bytes_same (is ∙ ap (λ l. bytes old ++ l) (sym (bytes-decimal n (omega (arith, small)))) ∙ sym (bytes-append old (decimal n)))
