-- Examples of what a loop makes that remembers something of the items so far. Here it remembers how many there were, or the last.
use Rattle.std.proofs.Common.{◌≡◌, ℕ, ◌+◌, ◌==◌, List, [], ◌∷◌, Bool, true, false, not, if◌then◌else◌, refl, codes}
use Rattle.arraystring.specs.Loops.{memory, flat_map_with_memory, filter_with_memory}

-- one more was seen
abbrev counted : ℕ → ℕ → ℕ
counted seen x = seen + 1

-- this one is the last
abbrev last : ℕ → ℕ → ℕ
last before x = x

memory-of_no_item : memory last 7 [] ≡ 7
memory-of_no_item = refl

memory-begins_with_what_is_given : memory counted 7 (codes "abc") ≡ 10
memory-begins_with_what_is_given = refl

memory-of_the_last_item : memory last 7 (codes "abc") ≡ 0x63
memory-of_the_last_item = refl

-- how many items came before, and the item
abbrev numbered : ℕ → ℕ → List ℕ
numbered seen x = seen ∷ x ∷ []

flat_map_with_memory-no_item : flat_map_with_memory counted numbered 7 [] ≡ []
flat_map_with_memory-no_item = refl

-- the first piece is made of what is given, and a piece knows nothing of its own item
flat_map_with_memory-items_before : flat_map_with_memory counted numbered 0 (codes "abc") ≡ 0 ∷ 0x61 ∷ 1 ∷ 0x62 ∷ 2 ∷ 0x63 ∷ []
flat_map_with_memory-items_before = refl

flat_map_with_memory-the_last_before : flat_map_with_memory last numbered 7 (codes "abc") ≡ 7 ∷ 0x61 ∷ 0x61 ∷ 0x62 ∷ 0x62 ∷ 0x63 ∷ []
flat_map_with_memory-the_last_before = refl

-- a piece may be empty
flat_map_with_memory-no_piece_of_the_first : flat_map_with_memory counted (λ seen x. if seen == 0 then [] else x ∷ x ∷ []) 0 (codes "abc") ≡ codes "bbcc"
flat_map_with_memory-no_piece_of_the_first = refl

-- another item than the last
abbrev changes : ℕ → ℕ → Bool
changes before x = not (before == x)

filter_with_memory-no_item : filter_with_memory last changes 0x61 [] ≡ []
filter_with_memory-no_item = refl

-- the first is the item that is given, and of each run of the same one is kept
filter_with_memory-one_of_each_run : filter_with_memory last changes 0x61 (codes "aabba") ≡ codes "ba"
filter_with_memory-one_of_each_run = refl

-- an item that is not kept is remembered, too
filter_with_memory-what_was_not_kept_counts : filter_with_memory counted (λ seen x. not (seen == 1)) 0 (codes "abc") ≡ codes "ac"
filter_with_memory-what_was_not_kept_counts = refl

filter_with_memory-all_and_none : (filter_with_memory last (λ before x. true) 0 (codes "ab") ≡ codes "ab") × (filter_with_memory last (λ before x. false) 0 (codes "ab") ≡ [])
filter_with_memory-all_and_none = (refl, refl)
