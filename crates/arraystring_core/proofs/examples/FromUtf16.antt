-- Examples of what the constructors from UTF-16 return, by where the reading stops: at its end, at a lone surrogate (a fault), or at a
-- character that does not fit (full).
use Rattle.std.proofs.Common.{◌≡◌, ℕ, List, refl, arith, codes, Some, None, Ok, Err}
use Rattle.arraystring_base.specs.Utf16.{End, Fault, Full}
use Rattle.arraystring_base.specs.declared.error.Error.TheVariants as error
use Rattle.arraystring_base.specs.declared.error.Utf16.{Utf16}
use Rattle.arraystring_base.specs.declared.utf16.Unit16.TheVariants.{Char, Lone}
use Rattle.arraystring_core.specs.Stored.{view_with_empty_spare}
use Rattle.arraystring_core.specs.FromUtf16.{GivesWholeOrError, GivesPrefixOrFault, stop_before_item}

GivesWholeOrError-all : GivesWholeOrError (End (codes "ab")) (Ok (view_with_empty_spare (codes "ab")))
GivesWholeOrError-all = refl

GivesWholeOrError-whatever_lies_around_it : (spare : List ℕ) → GivesWholeOrError (End (codes "ab")) (Ok (record { text = codes "ab"; spare = spare }))
GivesWholeOrError-whatever_lies_around_it spare = refl

GivesWholeOrError-no_part : GivesWholeOrError (End (codes "ab")) (Ok (view_with_empty_spare (codes "a"))) → ⊥
GivesWholeOrError-no_part gives = grind (arith, gives)

GivesWholeOrError-no_error_at_the_end : GivesWholeOrError (End (codes "ab")) (Err error.OutOfBounds) → ⊥
GivesWholeOrError-no_error_at_the_end gives = gives

GivesWholeOrError-the_error_of_a_fault : GivesWholeOrError (Fault (codes "ab")) (Err error.Utf16)
GivesWholeOrError-the_error_of_a_fault = refl

GivesWholeOrError-no_other_error_of_a_fault : GivesWholeOrError (Fault (codes "ab")) (Err error.OutOfBounds) → ⊥
GivesWholeOrError-no_other_error_of_a_fault gives = cc

GivesWholeOrError-no_string_at_a_fault : GivesWholeOrError (Fault (codes "ab")) (Ok (view_with_empty_spare (codes "ab"))) → ⊥
GivesWholeOrError-no_string_at_a_fault gives = gives

GivesWholeOrError-the_error_of_no_room : GivesWholeOrError (Full (codes "ab")) (Err error.OutOfBounds)
GivesWholeOrError-the_error_of_no_room = refl

GivesWholeOrError-no_other_error_of_no_room : GivesWholeOrError (Full (codes "ab")) (Err error.Utf16) → ⊥
GivesWholeOrError-no_other_error_of_no_room gives = cc

GivesWholeOrError-no_string_without_room : GivesWholeOrError (Full (codes "ab")) (Ok (view_with_empty_spare (codes "ab"))) → ⊥
GivesWholeOrError-no_string_without_room gives = gives

GivesPrefixOrFault-all : GivesPrefixOrFault (End (codes "ab")) (Ok (view_with_empty_spare (codes "ab")))
GivesPrefixOrFault-all = refl

GivesPrefixOrFault-whatever_lies_around_it : (spare : List ℕ) → GivesPrefixOrFault (End (codes "ab")) (Ok (record { text = codes "ab"; spare = spare }))
GivesPrefixOrFault-whatever_lies_around_it spare = refl

GivesPrefixOrFault-no_part : GivesPrefixOrFault (End (codes "ab")) (Ok (view_with_empty_spare (codes "a"))) → ⊥
GivesPrefixOrFault-no_part gives = grind (arith, gives)

GivesPrefixOrFault-no_error_at_the_end : (e : Utf16) → GivesPrefixOrFault (End (codes "ab")) (Err e) → ⊥
GivesPrefixOrFault-no_error_at_the_end e gives = gives

GivesPrefixOrFault-an_error_at_a_fault : (e : Utf16) → GivesPrefixOrFault (Fault (codes "ab")) (Err e)
GivesPrefixOrFault-an_error_at_a_fault e = refl

GivesPrefixOrFault-no_string_at_a_fault : GivesPrefixOrFault (Fault (codes "ab")) (Ok (view_with_empty_spare (codes "ab"))) → ⊥
GivesPrefixOrFault-no_string_at_a_fault gives = cc

GivesPrefixOrFault-cut : GivesPrefixOrFault (Full (codes "ab")) (Ok (view_with_empty_spare (codes "ab")))
GivesPrefixOrFault-cut = refl

GivesPrefixOrFault-not_cut_shorter : GivesPrefixOrFault (Full (codes "ab")) (Ok (view_with_empty_spare (codes "a"))) → ⊥
GivesPrefixOrFault-not_cut_shorter gives = grind (arith, gives)

-- what is too long is cut, and not refused
GivesPrefixOrFault-no_error_of_no_room : (e : Utf16) → GivesPrefixOrFault (Full (codes "ab")) (Err e) → ⊥
GivesPrefixOrFault-no_error_of_no_room e gives = gives

stop_before_item-each_item : (stop_before_item None (codes "ab") ≡ End (codes "ab")) × (stop_before_item (Some (Lone 0xD800)) (codes "ab") ≡ Fault (codes "ab"))
    × (stop_before_item (Some (Char 0x63)) (codes "ab") ≡ Full (codes "ab"))
stop_before_item-each_item = (refl, refl, refl)
