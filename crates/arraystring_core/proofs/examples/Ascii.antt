-- Examples of the case of ASCII letters: of both alphabets the ends, and what is next to them. 'é' is U+E9, and 'É' U+C9.
use Rattle.std.proofs.Common.{◌≡◌, refl, codes, map}
use Rattle.arraystring_core.specs.Ascii.{to_case}
use Rattle.arraystring_core.specs.declared.array_string.ascii.Case.TheVariants.{Upper, Lower}

to_case-upper : map (to_case Upper) (codes "`az{@AZ[é") ≡ codes "`AZ{@AZ[é"
to_case-upper = refl

to_case-lower : map (to_case Lower) (codes "`az{@AZ[É") ≡ codes "`az{@az[É"
to_case-lower = refl
