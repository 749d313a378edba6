use Rattle.std.proofs.Common.{◌≡◌, ℕ, List, ◌++◌, ap, sym, subst, take, ◌∙◌, false, if◌then◌else◌, is_ok, is_err, Result, Ok, Err}
use Rattle.std.proofs.KnownBytes.{Consumes-trans, Consumes-kept}
use Rattle.std.specs.Io.KnownBytes.{Consumes}
use Rattle.arraystring_run.proofs.player.read_all.Goals.{in-Ok+else-is_err, in-Err+else-ne}
use Rattle.arraystring_run.proofs.player.read_all.Goals as goal

-- a list that was extended, and not refused
extended : {A E : Type 0} (r : Result A E) (new old more : List ℕ)
    → new ≡ (if is_ok r then old ++ more else old) → false ≡ is_err r → new ≡ old ++ more
extended (Ok x) new old more is taken = is
extended (Err e) new old more is taken = absurd (cc)

pub loop-preserved : goal.loop-preserved
loop-preserved g c = elim c.match-read.branch [
  | in-Ok+else-is_err w ↦
      let added = extended w.extend_from_slice.result _ c.loop.bytes.items (take w.in-Ok.count c.read.new.buf) w.extend_from_slice.ensures.items w.if-is_err.ensures.value in
      subst (Consumes (g.I.Read.remaining c.args.input.now) (g.I.Read.remaining c.read.new.self)) (sym (ap (λ v. v.items) w.bytes-is ∙ added))
      (Consumes-trans _ _ _ _ _ c.loop.invariant w.in-Ok.ensures.bytes.0)
  | in-Err+else-ne w ↦
      subst (Consumes (g.I.Read.remaining c.args.input.now) (g.I.Read.remaining c.read.new.self)) (sym (ap (λ v. v.items) w.bytes-is))
      (Consumes-kept _ _ _ _ c.loop.invariant w.in-Err.ensures.bytes)
]
