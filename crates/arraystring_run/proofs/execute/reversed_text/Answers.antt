use Rattle.std.proofs.Common.{◌≡◌, ◌++◌, ◌∷◌, [], ap, append_assoc, arith, rules, reverse}
use Rattle.std.proofs.lemmas.List.{reverse-append}
use Rattle.arraystring.specs.Text.{size}
use Rattle.arraystring.proofs.TextLaws.{size-append}
use Rattle.arraystring_run.proofs.execute.reversed_text.Goals as goal

pub push_unchecked-requires : goal.push_unchecked-requires
push_unchecked-requires g c =
    let rest = c.next_back.new.self.left in
    let left : c.loop-ch.removed.left ≡ rest ++ c.in-Some.ch ∷ [] = c.in-Some.ensures.steps in
    (search rules, omega (arith, ap size left, size-append rest (c.in-Some.ch ∷ [])))

pub loop-ch-preserved : goal.loop-ch-preserved
loop-ch-preserved g c =
    let text = c.loop-ch.text.text in
    let rest = c.next_back.new.self.left in
    let left : c.loop-ch.removed.left ≡ rest ++ c.in-Some.ch ∷ [] = c.in-Some.ensures.steps in
    let pushed = c.push_unchecked.ensures in
    record {
      reversed = cc (
        pushed,
        append_assoc text (c.in-Some.ch ∷ []) (reverse rest),
        reverse-append rest (c.in-Some.ch ∷ []),
        c.loop-ch.invariant.reversed,
      );
      fits = omega (arith, ap size left, size-append rest (c.in-Some.ch ∷ []), ap size pushed, size-append text (c.in-Some.ch ∷ []));
    }
