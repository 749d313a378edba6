-- Examples of what a constructor makes of a text. `aé` takes three bytes.
use Rattle.std.proofs.Common.{ℕ, List, refl, arith, codes, Ok, Err}
use Rattle.arraystring_base.specs.Text.{width}
use Rattle.arraystring_base.specs.declared.error.Error.TheVariants as error
use Rattle.arraystring_core.specs.Stored.{view_with_empty_spare}
use Rattle.arraystring_core.specs.Construct.{IsWholeOrRefused}

IsWholeOrRefused-fits_exactly : IsWholeOrRefused (codes "aé") 3 (Ok (view_with_empty_spare (codes "aé")))
unfolding width
IsWholeOrRefused-fits_exactly = (omega arith, refl)

IsWholeOrRefused-whatever_lies_around_it : (spare : List ℕ) → IsWholeOrRefused (codes "aé") 3 (Ok (record { text = codes "aé"; spare = spare }))
unfolding width
IsWholeOrRefused-whatever_lies_around_it spare = (omega arith, refl)

IsWholeOrRefused-one_byte_too_large : IsWholeOrRefused (codes "aé") 2 (Err error.OutOfBounds)
unfolding width
IsWholeOrRefused-one_byte_too_large = (omega arith, refl)

IsWholeOrRefused-no_larger_text : IsWholeOrRefused (codes "aé") 2 (Ok (view_with_empty_spare (codes "aé"))) → ⊥
unfolding width
IsWholeOrRefused-no_larger_text is = omega (arith, is.0)

IsWholeOrRefused-no_part : IsWholeOrRefused (codes "aé") 3 (Ok (view_with_empty_spare (codes "a"))) → ⊥
IsWholeOrRefused-no_part is = grind (arith, is.1)

IsWholeOrRefused-no_refusal_of_what_fits : IsWholeOrRefused (codes "aé") 3 (Err error.OutOfBounds) → ⊥
unfolding width
IsWholeOrRefused-no_refusal_of_what_fits is = omega (arith, is.0)

IsWholeOrRefused-no_other_error : IsWholeOrRefused (codes "aé") 2 (Err error.Utf8) → ⊥
IsWholeOrRefused-no_other_error is = cc (is.1)
