use Rattle.std.proofs.Common.{map, ap, ◌∙◌, rules, ◌≡◌}
use Rattle.std.proofs.iter.Yields.{copies, fronts}
use Rattle.arraystring.specs.Text.{cap}
use Rattle.arraystring.specs.Taken.{piece_text}
use Rattle.arraystring.proofs.TakenLaws.{slice-gives, pieces-fit}
use Rattle.arraystring_tests.proofs.tests.construct.of_pieces.Goals as goal

pub from_iterator_unchecked-made-requires : goal.from_iterator_unchecked-made-requires
from_iterator_unchecked-made-requires g c κs =
    let pieces = c.args.pieces.now in
    let tried = c.in-Ok.ensures.whole (map piece_text pieces)
    (λ it e. slice-gives c.copied-2.result it pieces (ap (λ i. i.rest.now) c.copied-2.ensures.source ∙ c.iter-2.ensures.rest) e) in
    let source = ap (λ i. i.rest.now) c.copied-in-Ok.ensures.source ∙ c.iter-in-Ok.ensures.rest in
    let fits = pieces-fit (λ x it. it ≡ x) (copies fronts) c.copied-in-Ok.result (map piece_text pieces)
    (λ it e. slice-gives c.copied-in-Ok.result it pieces source e) (cap g.row.N) tried.0 in
    (search rules, (search rules, (search rules, fits)))

pub returns-in-Ok-clause-cut : goal.returns-in-Ok-clause-cut
returns-in-Ok-clause-cut g c =
    let pieces = c.args.pieces.now in
    c.from_iterator-cut.ensures.whole (map piece_text pieces)
    (λ it e. slice-gives c.copied.result it pieces (ap (λ i. i.rest.now) c.copied.ensures.source ∙ c.iter.ensures.rest) e)

pub returns-in-Err-clause-cut : goal.returns-in-Err-clause-cut
returns-in-Err-clause-cut g c =
    let pieces = c.args.pieces.now in
    c.from_iterator-cut.ensures.whole (map piece_text pieces)
    (λ it e. slice-gives c.copied.result it pieces (ap (λ i. i.rest.now) c.copied.ensures.source ∙ c.iter.ensures.rest) e)

pub returns-in-Ok-clause-unchecked : goal.returns-in-Ok-clause-unchecked
returns-in-Ok-clause-unchecked g c =
    let pieces = c.args.pieces.now in
    let source = ap (λ i. i.rest.now) c.copied-in-Ok.ensures.source ∙ c.iter-in-Ok.ensures.rest in
    c.from_iterator_unchecked-made.ensures.whole (map piece_text pieces) (λ it e. slice-gives c.copied-in-Ok.result it pieces source e)
