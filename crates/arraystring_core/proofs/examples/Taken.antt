-- Examples of what a call takes from an iterator. Here an iterator is the list of the characters that are left.
use Rattle.std.proofs.Common.{◌≡◌, ℕ, List, [], ◌∷◌, refl, arith, codes, inl, inr, Option}
use Rattle.std.proofs.lemmas.Bool.Decides.{nat_tests}
use Rattle.std.specs.Str.{chars}
use Rattle.std.specs.Iterator.{YieldsFirst}
use Rattle.std.specs.Borrow.{Bor}
use Rattle.arraystring_base.specs.Text.{width}
use Rattle.arraystring_core.specs.Taken.{joined_texts, piece_text, joined_pieces, OnlyLastDoesNotFit, TakesAll, Takes, Fits, Gives}

joined_texts-two_texts : (joined_texts [] ≡ []) × (joined_texts (codes "ab" ∷ [] ∷ codes "c" ∷ []) ≡ codes "abc")
joined_texts-two_texts = (refl, refl)

-- a `&str` with these bytes
abbrev piece : List ℕ → Bor (List ℕ)
piece bs = record { ref_ptr = (0, 0); now = bs }

piece_text-of_two_bytes : piece_text (piece (0xC3 ∷ 0xA9 ∷ [])) ≡ codes "é"
unfolding chars
piece_text-of_two_bytes = refl

joined_pieces-two : joined_pieces (piece (codes "a") ∷ piece (0xC3 ∷ 0xA9 ∷ []) ∷ []) ≡ codes "aé"
unfolding chars
joined_pieces-two = refl

abbrev itself : List ℕ → List ℕ
itself items = items

-- with room for two bytes 'é' is the first that no longer fits behind 'a'
OnlyLastDoesNotFit-the_last : OnlyLastDoesNotFit itself 2 (codes "aé")
unfolding width
OnlyLastDoesNotFit-the_last = (codes "a", 0xE9, refl, omega arith, omega arith)

OnlyLastDoesNotFit-not_of_what_fits : OnlyLastDoesNotFit itself 3 (codes "aé") → ⊥
unfolding width
OnlyLastDoesNotFit-not_of_what_fits is = omega (arith, is.4)

-- 'é' was past the room
OnlyLastDoesNotFit-no_item_behind_it : OnlyLastDoesNotFit itself 1 (codes "éb") → ⊥
unfolding width
OnlyLastDoesNotFit-no_item_behind_it ([], last, e, fits, past) = grind arith
OnlyLastDoesNotFit-no_item_behind_it (x ∷ [], last, e, fits, past) = grind (arith, nat_tests)
OnlyLastDoesNotFit-no_item_behind_it (x ∷ y ∷ [], last, e, fits, past) = grind arith
OnlyLastDoesNotFit-no_item_behind_it (x ∷ y ∷ z ∷ before, last, e, fits, past) = grind arith

OnlyLastDoesNotFit-behind_what_fills_the_room : OnlyLastDoesNotFit itself 1 (codes "aé")
unfolding width
OnlyLastDoesNotFit-behind_what_fills_the_room = (codes "a", 0xE9, refl, omega arith, omega arith)

abbrev becomes : List ℕ → List ℕ → Type 0
becomes given iter = given ≡ iter

abbrev steps : List ℕ → Option ℕ → List ℕ → Type 0
steps = YieldsFirst itself

TakesAll-to_the_end : TakesAll becomes steps (codes "ab") (codes "ab")
TakesAll-to_the_end = (codes "ab", refl, ([], ([], (codes "b", refl, ([], refl, refl)), (refl, refl))))

TakesAll-no_part : TakesAll becomes steps (codes "ab") (codes "a") → ⊥
TakesAll-no_part takes = grind arith

TakesAll-of_no_other_iterator : TakesAll becomes steps (codes "ab") (codes "c") → ⊥
TakesAll-of_no_other_iterator takes = grind arith

Takes-what_fits_exactly : Takes becomes steps itself (codes "aé") 3 (codes "aé")
unfolding width
Takes-what_fits_exactly = (codes "aé", refl, inl (([], ([], (codes "é", refl, ([], refl, refl)), (refl, refl))), omega arith))

Takes-the_first_that_no_longer_fits : Takes becomes steps itself (codes "aéb") 2 (codes "aé")
Takes-the_first_that_no_longer_fits =
    (codes "aéb", refl, inr (codes "b", (codes "éb", refl, (codes "b", refl, refl)), OnlyLastDoesNotFit-the_last))

Takes-no_part_that_fits : Takes becomes steps itself (codes "ab") 2 (codes "a") → ⊥
unfolding width
Takes-no_part_that_fits (it, is, inl drains) = grind arith
Takes-no_part_that_fits (it, is, inr stops) = omega (arith, stops.2.4)

Takes-not_past_the_room : Takes becomes steps itself (codes "éb") 1 (codes "éb") → ⊥
unfolding width
Takes-not_past_the_room (it, is, inl drains) = omega (arith, drains.1)
Takes-not_past_the_room (it, is, inr stops) = OnlyLastDoesNotFit-no_item_behind_it stops.2

Takes-of_no_other_iterator : Takes becomes steps itself (codes "aé") 1 (codes "é") → ⊥
unfolding width
Takes-of_no_other_iterator (it, is, inl drains) = omega (arith, drains.1)
Takes-of_no_other_iterator (it, is, inr stops) = grind arith

Fits-exactly : Fits becomes steps itself (codes "é") 2
unfolding width
Fits-exactly it is [] rest yields = omega arith
Fits-exactly it is (x ∷ []) rest yields = grind (arith, nat_tests)
Fits-exactly it is (x ∷ y ∷ items) rest yields = absurd (grind arith)

Fits-not_with_less_room : Fits becomes steps itself (codes "é") 1 → ⊥
unfolding width
Fits-not_with_less_room fits = omega (arith, fits (codes "é") refl (codes "é") [] ([], refl, refl))

Gives-all : Gives becomes steps (λ c. c) (codes "ab") (codes "ab")
Gives-all it is = (
  λ j none. grind arith,
  λ x j one. (grind arith, (λ k none. grind arith, λ y k two. (grind arith, λ z l three. grind arith))),
)

Gives-no_part : Gives becomes steps (λ c. c) (codes "ab") (codes "a") → ⊥
Gives-no_part gives = ((gives (codes "ab") refl).1 0x61 (codes "b") refl).1 0x62 [] refl

Gives-no_more : Gives becomes steps (λ c. c) (codes "a") (codes "ab") → ⊥
Gives-no_more gives = ((gives (codes "a") refl).1 0x61 [] refl).1.0 [] (refl, refl)

Gives-no_other_item : Gives becomes steps (λ c. c) (codes "a") (codes "b") → ⊥
Gives-no_other_item gives = grind (arith, ((gives (codes "a") refl).1 0x61 [] refl).0)
