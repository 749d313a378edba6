use Rattle.std.proofs.Common.{◌≡◌, ◌≤◌, ℕ, List, [], ◌∷◌, ◌++◌, length, length-append, ap, subst, sym, ◌∙◌, arith}
use Rattle.std.proofs.lemmas.List.{append-nil}
use Rattle.arraystring_run.specs.declared.commands.Command.{Command}
use Rattle.arraystring_run.specs.CommandLines.{IsLineOf}
use Rattle.arraystring_run.specs.LinesOfScripts.{AreLinesOfCommands}
use Rattle.arraystring_run.proofs.laws.first_bad_line_is_unique.Goals as goal

-- no lines of commands go past a bad line
at-most : (f g : List (List ℕ)) (l : List ℕ) (r s : List (List ℕ)) (ds : List Command) → f ++ l ∷ r ≡ g ++ s → AreLinesOfCommands g ds
    → ((c : Command) → IsLineOf l c → ⊥) → length g ≤ length f
at-most f [] l r s ds e are bad = omega arith
at-most f (x ∷ g) l r s [] e are bad = absurd are
at-most [] (x ∷ g) l r s (d ∷ ds) e are bad = let same : x ≡ l = cc in absurd (bad d (subst (λ k. IsLineOf k d) same are.0))
at-most (y ∷ f) (x ∷ g) l r s (d ∷ ds) e are bad = let rest = at-most f g l r s ds (cc) are.1 bad in omega arith

pub returns : goal.returns
returns c = record {
  refused = λ all cs k at are.
      let most = at-most at.front all at.line at.rest [] cs (sym at.whole ∙ sym (append-nil all)) are at.bad in
      omega (arith, ap length at.whole, length-append at.front (at.line ∷ at.rest));
  first = λ all j k at also.
      let one = at-most at.front also.front at.line at.rest (also.line ∷ also.rest) also.commands
      (sym at.whole ∙ also.whole) also.before at.bad in
      let other = at-most also.front at.front also.line also.rest (at.line ∷ at.rest) at.commands
      (sym also.whole ∙ at.whole) at.before also.bad in
      omega arith;
}
