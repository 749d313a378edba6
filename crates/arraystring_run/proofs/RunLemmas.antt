-- Cuts, and lists that are empty.
use Rattle.std.proofs.Common.{◌≡◌, ℕ, ◌<◌, ◌==◌, List, [], length, refl, sym, ap, ◌∙◌, arith, None, true, nat_lt, inl, inr}
use Rattle.std.proofs.lemmas.List.{nil_from_length}
use Rattle.std.proofs.lemmas.Bool.{cases_lt, eqb-true, lt-ltb, le-ltb}
use Rattle.arraystring.specs.Text.{size, cut}
use Rattle.arraystring.proofs.CutLaws.{cut-fits, cut-all}
use Rattle.arraystring_run.specs.Effects.{run_result, first_tight_from}
use Rattle.arraystring_run.specs.declared.commands.Command.{Command}

-- a cut is not the whole text exactly if the text is larger
pub is_cut-larger : (t : List ℕ) (n : ℕ) → nat_lt n (size t) ≡ nat_lt (size (cut t n)) (size t)
is_cut-larger t n =
    elim (cases_lt n (size t)) [
      | inl over ↦ let le = cut-fits t n in let lt : size (cut t n) < size t = omega arith in
          lt-ltb n (size t) over ∙ sym (lt-ltb (size (cut t n)) (size t) lt)
      | inr fits ↦ let same : size (cut t n) ≡ size t = ap size (cut-all fits) in
          le-ltb n (size t) fits ∙ sym (le-ltb (size (cut t n)) (size t) (omega arith))
    ]

pub is_empty-none : {X : Type 0} (xs : List X) → true ≡ (length xs == 0) → xs ≡ []
is_empty-none xs shown = nil_from_length xs (eqb-true (length xs) 0 (sym shown))

-- no commands give no reply, and leave the text
pub of-none : (cs : List Command) (t : List ℕ) (n : ℕ) → true ≡ (length cs == 0)
    → ((run_result cs t n).replies ≡ []) × ((run_result cs t n).text ≡ t) × (first_tight_from 0 cs t n ≡ None)
of-none cs t n shown =
    let none : cs ≡ [] = is_empty-none cs shown in rw none (refl, refl, refl)
