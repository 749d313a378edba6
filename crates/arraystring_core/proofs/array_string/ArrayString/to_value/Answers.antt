use Rattle.std.proofs.Common.{◌≡◌, ap, ◌∙◌, rules}
use Rattle.serde_json.specs.View.{view}
use Rattle.serde_json.specs.declared.value.Value.{String, the_lemmas}
use Rattle.arraystring_base.specs.Text.{cap}
use Rattle.arraystring_core.specs.Json.{json_string, cut_text_of_value, text_of_value}
use Rattle.arraystring_core.proofs.JsonLaws.{reads_back, reads_whole}
use Rattle.arraystring_core.proofs.array_string.ArrayString.to_value.Goals as goal

pub returns-clause-reads_back : goal.returns-clause-reads_back
returns-clause-reads_back g c =
    let t = c.args.self.now.text in
    let made : view (String c.in_ok-from_str.field-0) ≡ json_string t = search (rules, the_lemmas) in
    ap (λ value. cut_text_of_value value (cap g.row.N)) made
    ∙ reads_back t (cap g.row.N) c.as_str.ensures.text c.as_str.ensures.fits

pub returns-clause-reads_whole : goal.returns-clause-reads_whole
returns-clause-reads_whole g c =
    let t = c.args.self.now.text in
    let made : view (String c.in_ok-from_str.field-0) ≡ json_string t = search (rules, the_lemmas) in
    ap text_of_value made ∙ reads_whole t c.as_str.ensures.text
