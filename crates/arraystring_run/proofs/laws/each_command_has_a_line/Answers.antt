use Rattle.std.proofs.Common.{◌<◌, ◌≤◌, ◌^◌, ℕ, List, [], ◌∷◌, refl, sym, arith, rules}
use Rattle.std.proofs.lemmas.Fmt.{digits_decimal, digits_value-decimal, decimal_nonempty, length-decimal-le}
use Rattle.std.proofs.lemmas.Str.Parse.{IsNumeralModel, numerals_by_fold}
use Rattle.std.specs.Fmt.{decimal}
use Rattle.arraystring.specs.Text.{utf8}
use Rattle.arraystring_run.specs.CommandLines.{Argument, Number, Character, Text, arguments, AreDigits, number_continued_by, IsNumber, SpellsArguments, spelling_of_arguments, EachArgumentIsValid}
use Rattle.arraystring_run.proofs.laws.each_command_has_a_line.Goals as goal

-- a number as it is printed
decimal-number : (n : ℕ) → n ≤ 255 → IsNumber (decimal n) n
decimal-number n small =
    let own : IsNumeralModel AreDigits (number_continued_by 0) = numerals_by_fold AreDigits (search rules) number_continued_by (search rules) in
    let fits : n < 2 ^ 64 = omega arith in
    let below : n < 10 ^ 3 = omega arith in
    record {
      some = decimal_nonempty n fits;
      short = length-decimal-le 3 n (omega arith) below fits;
      digits = digits_decimal own n fits;
      value = sym (digits_value-decimal own n fits);
      small = small;
    }

spelling_of_arguments-are : (given : List Argument) → EachArgumentIsValid given → SpellsArguments (spelling_of_arguments given) given
spelling_of_arguments-are [] are = refl
spelling_of_arguments-are (Number n ∷ rest) are = (decimal n, spelling_of_arguments rest, refl, decimal-number n are.0, spelling_of_arguments-are rest are.1)
spelling_of_arguments-are (Character c ∷ rest) are = (utf8 c, spelling_of_arguments rest, refl, (are.0, refl), spelling_of_arguments-are rest are.1)
spelling_of_arguments-are (Text given ∷ rest) are = (given, spelling_of_arguments rest, refl, (are.0, refl), spelling_of_arguments-are rest are.1)

pub returns : goal.returns
returns c d are = (spelling_of_arguments (arguments d), refl, spelling_of_arguments-are (arguments d) are)
