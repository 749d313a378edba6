use Rattle.std.proofs.Common.{◌≡◌, ℕ, ◌+◌, ◌-◌, ◌≤◌, List, ◌++◌, sym, ap, ◌∙◌, arith, None, append_assoc, true}
use Rattle.std.proofs.lemmas.Bool.{le-ltb}
use Rattle.arraystring_base.specs.Text.{size, front, back, boundary}
use Rattle.arraystring_base.proofs.TextLaws.{size-append}
use Rattle.arraystring_base.proofs.BoundaryLaws.{front-size, front-is, back-is, back-size, boundary-is}
use Rattle.arraystring_core.specs.Edits.{first_cause, part, replacement}
use Rattle.arraystring_core.proofs.CauseLemmas.{IsAllowed, allowed-where}
use Rattle.arraystring_core.proofs.EditLaws.{inside-not}
use Rattle.arraystring_core.proofs.PartLaws.{part-joined, part-size}
use Rattle.arraystring_core.proofs.laws.replacement_turns_back.Goals as goal

module _ (t given : List ℕ) (start end n : ℕ) (is : IsAllowed t start end (size given) n) where
  before : size (front t start) ≡ start
  before = front-size t start is.starts

  -- the text after, and where in it `given` ends
  abbrev after : List ℕ
  after = front t start ++ (given ++ back t end)

  abbrev close : ℕ
  close = start + size given

  split : after ≡ (front t start ++ given) ++ back t end
  split = sym (append_assoc (front t start) given (back t end))

  reached : size (front t start ++ given) ≡ close
  reached = omega (arith, size-append (front t start) given, before)

  after-size : size after ≡ size t - (end - start) + size given
  after-size = omega (arith, ap size split, size-append (front t start ++ given) (back t end), reached, back-size t end is.ends)

  close-boundary : boundary after close ≡ true
  close-boundary = ap (λ l. boundary l close) split ∙ boundary-is (front t start ++ given) (back t end) close reached

  allowed : size t ≤ n → first_cause (replacement after start close (part t start end) n).tests ≡ None
  allowed le =
      let room : size after - (close - start) + size (part t start end) ≤ n =
      omega (arith, after-size, part-size t start end is.order is.starts is.ends) in
      rw (
        le-ltb close start (omega arith),
        le-ltb (size after) close (omega (arith, after-size)),
        le-ltb n (size after - (close - start) + size (part t start end)) room,
        inside-not after start (boundary-is (front t start) (given ++ back t end) start before),
        inside-not after close close-boundary,
      )

  again : front after start ++ (part t start end ++ back after close) ≡ t
  again =
      rw (front-is (front t start) (given ++ back t end) start before)
      (ap (λ l. front t start ++ (part t start end ++ back l close)) split
      ∙ rw (back-is (front t start ++ given) (back t end) close reached) (part-joined t start end is.order))

pub returns : goal.returns
returns c = record {
  allowed = λ t given start end n le e. allowed t given start end n (allowed-where t start end (size given) n e) le;
  back = λ t given start end n e. again t given start end n (allowed-where t start end (size given) n e);
}
