-- Examples of the bounds of a range, and of its ends.
use Rattle.std.proofs.Common.{◌≡◌, ℕ, refl}
use Rattle.std.specs.declared.ops.Bound.{Bound}
use Rattle.std.specs.declared.ops.Bound.TheVariants.{Included, Excluded, Unbounded}
use Rattle.arraystring_core.specs.RangeEnds.{HoldsOfReturnedBounds, saturated_start, saturated_end}

-- a range like `1..3`, given by nothing but its bounds
abbrev start_of : Unit {0} → Bound ℕ
start_of range = Included 1

abbrev end_of : Unit {0} → Bound ℕ
end_of range = Excluded 3

HoldsOfReturnedBounds-its_own : HoldsOfReturnedBounds (λ _. Unit {0}) start_of end_of tt (λ start end. (start ≡ Included 1) × (end ≡ Excluded 3))
HoldsOfReturnedBounds-its_own = record { start = Included 1; end = Excluded 3; returned = λ has. (refl, refl); holds = (refl, refl) }

HoldsOfReturnedBounds-no_other_start : HoldsOfReturnedBounds (λ _. Unit {0}) start_of end_of tt (λ start end. start ≡ Unbounded) → ⊥
HoldsOfReturnedBounds-no_other_start of = cc (of.holds, (of.returned tt).0)

HoldsOfReturnedBounds-no_other_end : HoldsOfReturnedBounds (λ _. Unit {0}) start_of end_of tt (λ start end. end ≡ Unbounded) → ⊥
HoldsOfReturnedBounds-no_other_end of = cc (of.holds, (of.returned tt).1)

-- a range that was iterated to its end does not say which bounds it has
HoldsOfReturnedBounds-unknown : HoldsOfReturnedBounds (λ _. ⊥) start_of end_of tt (λ start end. start ≡ Unbounded)
HoldsOfReturnedBounds-unknown = record { start = Unbounded; end = Unbounded; returned = λ has. absurd has; holds = refl }

HoldsOfReturnedBounds-of_no_bounds : HoldsOfReturnedBounds (λ _. ⊥) start_of end_of tt (λ start end. ⊥) → ⊥
HoldsOfReturnedBounds-of_no_bounds of = of.holds

saturated_start-each_bound : (saturated_start (Included 7) ≡ 7) × (saturated_start (Excluded 7) ≡ 8) × (saturated_start Unbounded ≡ 0)
saturated_start-each_bound = (refl, refl, refl)

saturated_start-at_255 : (saturated_start (Included 255) ≡ 255)
    × (saturated_start (Excluded 254) ≡ 255) × (saturated_start (Excluded 255) ≡ 255)
saturated_start-at_255 = (refl, refl, refl)

saturated_end-each_bound : (saturated_end (Included 7) 9 ≡ 8) × (saturated_end (Excluded 7) 9 ≡ 7) × (saturated_end Unbounded 9 ≡ 9)
saturated_end-each_bound = (refl, refl, refl)

saturated_end-at_255 : (saturated_end (Included 254) 9 ≡ 255)
    × (saturated_end (Included 255) 9 ≡ 255) × (saturated_end (Excluded 255) 9 ≡ 255)
saturated_end-at_255 = (refl, refl, refl)
