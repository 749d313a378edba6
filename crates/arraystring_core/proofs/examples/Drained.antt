-- Examples of walks over what was taken out. '🤔' is U+1F914.
use Rattle.std.proofs.Common.{◌≡◌, [], ◌∷◌, refl, arith, codes, Some, None, Ok, Err}
use Rattle.arraystring_base.specs.Text.{width}
use Rattle.arraystring_base.specs.declared.error.Error.TheVariants as error
use Rattle.arraystring_core.specs.Stored.{view_with_empty_spare}
use Rattle.arraystring_core.specs.Drained.{DrainView, drain_advanced_to, removed_string_without_backs, drain_result_as_text, Front, Back, WalkResult, prepend_to_fronts, prepend_to_backs, walk_from_ends}

-- of `aé`, 'a' was given from the front
abbrev rest : DrainView
rest = record { left = codes "é"; yielded = codes "a"; spare = [] }

-- what was given from the front counts too: without it the same is left, and another text was removed
DrainView-the_same_left_of_two_texts : (rest.left ≡ (drain_advanced_to (view_with_empty_spare (codes "é")) 0).left) × (rest ≡ drain_advanced_to (view_with_empty_spare (codes "é")) 0 → ⊥)
unfolding width
DrainView-the_same_left_of_two_texts = (refl, λ e. grind arith)

drain_advanced_to-from_an_index_on : drain_advanced_to (view_with_empty_spare (codes "aé")) 1 ≡ rest
unfolding width
drain_advanced_to-from_an_index_on = refl

drain_advanced_to-the_numbers_stay : drain_advanced_to (record { text = codes "a"; spare = codes "x" }) 0 ≡ record { left = codes "a"; yielded = []; spare = codes "x" }
unfolding width
drain_advanced_to-the_numbers_stay = refl

removed_string_without_backs-both_parts : removed_string_without_backs rest ≡ view_with_empty_spare (codes "aé")
removed_string_without_backs-both_parts = refl

removed_string_without_backs-the_numbers_stay : removed_string_without_backs (record { left = codes "a"; yielded = []; spare = codes "x" }) ≡ record { text = codes "a"; spare = codes "x" }
removed_string_without_backs-the_numbers_stay = refl

drain_result_as_text-of_each_result : (drain_result_as_text (Ok rest) ≡ Ok (codes "é")) × (drain_result_as_text (Err error.Utf8) ≡ Err error.Utf8)
drain_result_as_text-of_each_result = (refl, refl)

DrainEnd-each_is_another : Front ≡ Back → ⊥
DrainEnd-each_is_another e = cc

-- `A` from the front, `B` from the back, and the rest is left
abbrev both_ends : WalkResult
both_ends = record { fronts = codes "A"; left = codes "🤔"; backs = codes "B" }

-- the only character, by the end that asked
WalkResult-the_end_counts : walk_from_ends (Front ∷ []) (codes "A") ≡ walk_from_ends (Back ∷ []) (codes "A") → ⊥
WalkResult-the_end_counts e = grind arith

prepend_to_fronts-first : prepend_to_fronts (Some 0x78) both_ends ≡ record { fronts = codes "xA"; left = codes "🤔"; backs = codes "B" }
prepend_to_fronts-first = refl

prepend_to_fronts-nothing : prepend_to_fronts None both_ends ≡ both_ends
prepend_to_fronts-nothing = refl

prepend_to_backs-first : prepend_to_backs (Some 0x78) both_ends ≡ record { fronts = codes "A"; left = codes "🤔"; backs = codes "xB" }
prepend_to_backs-first = refl

prepend_to_backs-nothing : prepend_to_backs None both_ends ≡ both_ends
prepend_to_backs-nothing = refl

walk_from_ends-no_end : walk_from_ends [] (codes "A🤔B") ≡ record { fronts = []; left = codes "A🤔B"; backs = [] }
walk_from_ends-no_end = refl

walk_from_ends-both_ends : walk_from_ends (Front ∷ Back ∷ []) (codes "A🤔B") ≡ both_ends
walk_from_ends-both_ends = refl

-- the last character comes from the end that asks first, and then both give nothing
walk_from_ends-past_the_end : walk_from_ends (Front ∷ Back ∷ Front ∷ Back ∷ Front ∷ []) (codes "A🤔B")
    ≡ record { fronts = codes "A🤔"; left = []; backs = codes "B" }
walk_from_ends-past_the_end = refl

walk_from_ends-backs_in_the_order_given : walk_from_ends (Back ∷ Back ∷ Back ∷ []) (codes "ABC") ≡ record { fronts = []; left = []; backs = codes "CBA" }
walk_from_ends-backs_in_the_order_given = refl
