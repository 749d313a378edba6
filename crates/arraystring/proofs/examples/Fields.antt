-- Examples of the parts of a text between the places where a character stands. Here a comma stands between them.
use Rattle.std.proofs.Common.{◌≡◌, [], ◌∷◌, refl, codes}
use Rattle.arraystring.specs.Fields.{fields, prepend_to_first_part}

prepend_to_first_part-of_the_first_part : prepend_to_first_part 0x61 (codes "b" ∷ codes "c" ∷ []) ≡ codes "ab" ∷ codes "c" ∷ []
prepend_to_first_part-of_the_first_part = refl

prepend_to_first_part-of_no_part : prepend_to_first_part 0x61 [] ≡ codes "a" ∷ []
prepend_to_first_part-of_no_part = refl

fields-between_commas : fields 0x2C (codes "a,bc,d") ≡ codes "a" ∷ codes "bc" ∷ codes "d" ∷ []
fields-between_commas = refl

-- the empty text is one empty part, and so is what is between two commas, before the first and behind the last
fields-of_no_text : fields 0x2C [] ≡ [] ∷ []
fields-of_no_text = refl

fields-that_are_empty : fields 0x2C (codes ",a,,") ≡ [] ∷ codes "a" ∷ [] ∷ [] ∷ []
fields-that_are_empty = refl

fields-without_a_comma : fields 0x2C (codes "a;b") ≡ codes "a;b" ∷ []
fields-without_a_comma = refl
