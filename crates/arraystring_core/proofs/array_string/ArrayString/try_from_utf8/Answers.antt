use Rattle.std.proofs.Common.{◌∙◌, sym, ap, arith, rules, chars, length, refl}
use Rattle.arraystring_base.specs.Text.{size, bytes}
use Rattle.arraystring_base.proofs.TextLaws.{well_formed-utf8, utf8-well_formed, chars-bytes, bytes-chars, text-chars, size-borrowed}
use Rattle.arraystring_core.proofs.array_string.ArrayString.try_from_utf8.Goals as goal

pub returns-in_default-clause-whole : goal.returns-in_default-clause-whole
returns-in_default-clause-whole g c = λ t is e. absurd (c.in_default.ensures (well_formed-utf8 (t, (is, e))))

pub returns-in_default-clause-made : goal.returns-in_default-clause-made
returns-in_default-clause-made g c = (λ e. absurd (cc), λ well. absurd (c.in_default.ensures (well_formed-utf8 well.0)))

pub returns-then-text-capacity-clause-malformed : goal.returns-then-text-capacity-clause-malformed
returns-then-text-capacity-clause-malformed g c = λ bad. absurd (bad (utf8-well_formed c.in-Ok.ensures.1))

pub returns-then-text-capacity-clause-too_large : goal.returns-then-text-capacity-clause-too_large
returns-then-text-capacity-clause-too_large g c = λ _. utf8-well_formed c.in-Ok.ensures.1

pub returns-then-text-capacity-clause-whole : goal.returns-then-text-capacity-clause-whole
returns-then-text-capacity-clause-whole g c = λ t is e.
    let given = c.args.given.now in
    let read = c.in-Ok.ensures in
    let same = chars-bytes read.1 (sym e) in
    (omega (arith, size-borrowed read.1, ap length read.0, ap size same), refl)

pub returns-then-text-capacity-clause-made : goal.returns-then-text-capacity-clause-made
returns-then-text-capacity-clause-made g c = (λ e. absurd (cc), λ fits. absurd (omega (arith, ap length c.in-Ok.ensures.0, fits.1)))

pub from_str_unchecked-requires : goal.from_str_unchecked-requires
from_str_unchecked-requires g c =
    let read = c.in-Ok.ensures in
    (search rules, omega (arith, size-borrowed read.1, ap length read.0, ap (λ l. size (chars l)) read.0))

pub returns : goal.returns
returns g c =
    let given = c.args.given.now in
    let read = c.in-Ok.ensures in
    let text = c.from_str_unchecked.ensures ∙ ap chars read.0 in
    record {
      malformed = λ bad. absurd (bad (utf8-well_formed read.1));
      too_large = λ no. grind arith;
      whole = λ t is e.
          let same = chars-bytes read.1 (sym e) in
          (omega (arith, size-borrowed read.1, ap length read.0, ap size same), text ∙ same);
      made = (λ _. (utf8-well_formed read.1, omega (arith, ap length read.0)), λ _. refl);
      bytes = ap bytes text ∙ bytes-chars read.1;
      text = rw text (text-chars read.1);
    }
