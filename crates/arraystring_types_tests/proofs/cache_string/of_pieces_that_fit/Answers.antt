use Rattle.std.proofs.Common.{map, ap, ◌∙◌, rules, ◌≡◌}
use Rattle.std.proofs.iter.Yields.{copies, fronts}
use Rattle.arraystring.specs.Taken.{piece_text}
use Rattle.arraystring.proofs.TakenLaws.{slice-gives, pieces-fit}
use Rattle.arraystring_types_tests.proofs.cache_string.of_pieces_that_fit.Goals as goal

pub from_iterator_unchecked-requires : goal.from_iterator_unchecked-requires
from_iterator_unchecked-requires c κs =
    let pieces = c.args.pieces.now in
    let tried = c.in-Ok.ensures.whole (map piece_text pieces)
    (λ it e. slice-gives c.copied.result it pieces (ap (λ i. i.rest.now) c.copied.ensures.source ∙ c.iter.ensures.rest) e) in
    let source = ap (λ i. i.rest.now) c.copied-in-Ok.ensures.source ∙ c.iter-in-Ok.ensures.rest in
    let fits = pieces-fit (λ x it. it ≡ x) (copies fronts) c.copied-in-Ok.result (map piece_text pieces)
    (λ it e. slice-gives c.copied-in-Ok.result it pieces source e) 63 tried.0 in
    (search rules, (search rules, fits))
