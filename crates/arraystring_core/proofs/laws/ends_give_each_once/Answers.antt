use Rattle.std.proofs.Common.{◌≡◌, ℕ, ◌-◌, List, [], ◌∷◌, ◌++◌, length, reverse, refl, sym, ap, ◌∙◌, arith, Some, append_assoc}
use Rattle.std.proofs.lemmas.List.{append-nil, nil_from_length, reverse-append}
use Rattle.arraystring_core.specs.Drained.{DrainEnd, Front, Back, prepend_to_backs, walk_from_ends}
use Rattle.arraystring_core.proofs.EditLaws.{last_character-push, all_but_last-push}
use Rattle.arraystring_core.proofs.EndLemmas.{last-split, pushed-length}
use Rattle.arraystring_core.proofs.laws.ends_give_each_once.Goals as goal

-- if nothing is left nothing is given
none : (ends : List DrainEnd) → walk_from_ends ends [] ≡ walk_from_ends [] []
none [] = refl
none (Front ∷ ends) = none ends
none (Back ∷ ends) = none ends

-- the back, and the walk from what it leaves
walked-back : (ends : List DrainEnd) (t new : List ℕ) (c : ℕ) → t ≡ new ++ c ∷ [] → walk_from_ends (Back ∷ ends) t ≡ prepend_to_backs (Some c) (walk_from_ends ends new)
walked-back ends t new c e = rw (e, last_character-push new c, all_but_last-push new c) refl

-- all that was walked is there
whole : (ends : List DrainEnd) (t : List ℕ) → (walk_from_ends ends t).fronts ++ ((walk_from_ends ends t).left ++ reverse (walk_from_ends ends t).backs) ≡ t
whole [] t = append-nil t
whole ends [] = rw (none ends) refl
whole (Front ∷ ends) (c ∷ cs) = ap (λ l. c ∷ l) (whole ends cs)
whole (Back ∷ ends) (c ∷ cs) =
    let last = last-split c cs in
    rw (walked-back ends (c ∷ cs) last.0 last.1 last.2, reverse-append (last.1 ∷ []) (walk_from_ends ends last.0).backs)
    (simp append_assoc at (ap (λ l. l ++ last.1 ∷ []) (whole ends last.0)) ∙ sym last.2)

-- each end takes a character while one is left
each : (ends : List DrainEnd) (t : List ℕ) → length (walk_from_ends ends t).left ≡ length t - length ends
each [] t = omega arith
each ends [] = omega (arith, ap (λ w. length w.left) (none ends))
each (Front ∷ ends) (c ∷ cs) = omega (arith, each ends cs)
each (Back ∷ ends) (c ∷ cs) =
    let last = last-split c cs in
    rw (walked-back ends (c ∷ cs) last.0 last.1 last.2) (omega (arith, each ends last.0, pushed-length _ last.0 last.1 last.2))

pub returns : goal.returns
returns c = record {
  whole = whole;
  each = each;
  all = λ ends t enough. nil_from_length (walk_from_ends ends t).left (omega (arith, each ends t));
  ended = none;
}
