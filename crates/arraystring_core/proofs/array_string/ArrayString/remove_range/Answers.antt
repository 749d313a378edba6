use Rattle.std.proofs.Common.{◌++◌, arith, rules, ap, sym, refl, ◌∙◌}
use Rattle.std.proofs.lemmas.Str.{chars-nil}
use Rattle.arraystring_base.specs.Text.{front, back}
use Rattle.arraystring_base.proofs.BoundaryLaws.{front-start}
use Rattle.arraystring_core.proofs.array_string.ArrayString.remove_range.Goals as goal

pub returns-then-start-eq0 : goal.returns-then-start-eq0
returns-then-start-eq0 g c =
    let t = c.args.self.now.text in
    record {
      text = c.drop_front.ensures ∙ sym (ap (λ l. l ++ back t c.args.end) (ap (front t) c.if-start-eq0.true ∙ front-start t));
      free = λ first. refl;
      tail_alone = omega arith;
      least = λ some. omega (arith, c.if-start-eq0.true);
      counted = omega arith;
      looked = refl;
    }

pub splice-requires : goal.splice-requires
splice-requires g c =
    let fits = c.text_fits.ensures in
    rw chars-nil (search rules, (c.requires.order, (c.requires.start, (c.requires.end, (omega arith, c.requires.countable)))))

pub returns : goal.returns
returns g c =
    let made = rw chars-nil at c.splice.ensures.replaced in
    record {
      text = made.text;
      free = λ first. absurd (c.if-start-eq0.false first);
      tail_alone = (rw chars-nil at c.splice.ensures.tail_alone) (omega arith);
      least = λ some. made.least (λ e. some (omega arith));
      counted = made.counted;
      looked = made.looked;
    }
