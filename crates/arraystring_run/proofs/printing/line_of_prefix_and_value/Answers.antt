use Rattle.std.proofs.Common.{◌≡◌, ℕ, List, [], ◌∷◌, ◌++◌, ◌∙◌, ap, sym, append_assoc, Option, Some, None, IfSome}
use Rattle.std.proofs.lemmas.Fmt.{contents_after_writes}
use Rattle.std.specs.Fmt.{WritesText, option_append}
use Rattle.arraystring.specs.Text.{bytes}
use Rattle.arraystring_run.specs.LinesOfScripts.{line_feed, with_newline}
use Rattle.arraystring_run.proofs.printing.line_of_prefix_and_value.Goals as goal

line_shown : {W : Type 0} (contents : W → List ℕ) (word : List ℕ) (o : Option (List ℕ)) (s t : W)
    → WritesText (λ x given y. contents y ≡ contents x ++ given) s
    (option_append (Some word) (option_append o (Some (line_feed ∷ [])))) t
    → contents s ≡ [] → IfSome o (λ bs. contents t ≡ with_newline (word ++ bs))
line_shown contents word None s t w none = tt
line_shown contents word (Some bs) s t w none =
    let line = word ++ (bs ++ line_feed ∷ []) in
    let all = contents_after_writes (λ x given y. contents y ≡ contents x ++ given) contents (λ _ _ _ e. e) s line t w in
    all ∙ ap (λ l. l ++ line) none ∙ sym (append_assoc word bs (line_feed ∷ []))

pub returns : goal.returns
returns g c =
    line_shown (λ x. bytes x.text) c.args.prefix.now (g.D.Display.output c.args.value) c.new-line.result c.writeln.new.self
    c.in_ok-writeln.ensures.writes (ap bytes c.new-line.ensures)
