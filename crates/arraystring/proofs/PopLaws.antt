-- Laws of a text and its last character, for loops that take a text apart from its end.
use Rattle.std.proofs.Common.{◌≡◌, ℕ, ◌+◌, List, [], ◌∷◌, ◌++◌, length, length-append, refl, sym, ap, ◌∙◌, Option, Some, None, MatchOption, Ok}
use Rattle.arraystring_core.specs.Edits.{Makes, popping, last_character, all_but_last}
use Rattle.arraystring.proofs.RemovalLaws.{popping-made}

-- a text is all but its last character, and then this one; `grind` looks for the text that a `pop` leaves
pub last-split : (t : List ℕ) → (all_but_last t ≡ all_but_last t)
    × MatchOption (last_character t) (t ≡ []) (λ c. (t ≡ all_but_last t ++ c ∷ []) × (length t ≡ length (all_but_last t) + 1))
last-split t = (refl, go (last_character t) refl)
  where
    row : (found : Option ℕ) → last_character t ≡ found → Makes (popping t) t (Ok found) (all_but_last t)
    row found e = record { returns = ap Ok (sym e); ok = refl; err = tt }

    go : (found : Option ℕ) → last_character t ≡ found
        → MatchOption found (t ≡ []) (λ c. (t ≡ all_but_last t ++ c ∷ []) × (length t ≡ length (all_but_last t) + 1))
    go None e = (popping-made (row None e)).0
    go (Some c) e =
        let is = popping-made (row (Some c) e) in
        (is, ap length is ∙ length-append (all_but_last t) (c ∷ []))
