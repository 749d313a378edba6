use Rattle.std.proofs.Common.{◌≡◌, ℕ, ◌+◌, ◌-◌, ◌≤◌, List, [], ◌∷◌, ◌∙◌, arith, rules, true, false, inl, inr, chars, sym, nat_lt}
use Rattle.std.proofs.lemmas.Bool.{cases_lt, lt-ltb, le-ltb}
use Rattle.std.proofs.lemmas.Bool.Decides.{nat_tests}
use Rattle.arraystring.specs.Text.{cut, size, boundary, cap}
use Rattle.arraystring.specs.Edits.{insertion_of_cut}
use Rattle.arraystring.proofs.TextLaws.{width-is}
use Rattle.arraystring.proofs.BoundaryLaws.{boundary-within, boundary-at_end}
use Rattle.arraystring_run.specs.Effects.{is_accepted}
use Rattle.arraystring_run.proofs.RunLemmas.{is_cut-larger}
use Rattle.arraystring_run.proofs.tight.is_tight.Goals as goal

-- less than all of a text is put behind s bytes exactly if not all of it fits there
cut-over : (given : List ℕ) (s n : ℕ) → s ≤ n → nat_lt n (s + size given) ≡ nat_lt (size (cut given (n - s))) (size given)
cut-over given s n le =
    let same : nat_lt n (s + size given) ≡ nat_lt (n - s) (size given) =
    elim (cases_lt n (s + size given)) [
      | inl over ↦ lt-ltb n (s + size given) over ∙ sym (lt-ltb (n - s) (size given) (omega arith))
      | inr fits ↦ le-ltb n (s + size given) fits ∙ sym (le-ltb (n - s) (size given) (omega arith))
    ] in
    same ∙ is_cut-larger given (n - s)

-- the cut of a text is inserted exactly at a boundary
made : (t : List ℕ) (i : ℕ) (given : List ℕ) (n : ℕ) → boundary t i ≡ true → is_accepted (insertion_of_cut t i given n) ≡ true
made t i given n b =
    let within : i ≤ size t = boundary-within t i b in grind (arith, nat_tests)

unmade : (t : List ℕ) (i : ℕ) (given : List ℕ) (n : ℕ) → boundary t i ≡ false → is_accepted (insertion_of_cut t i given n) ≡ false
unmade t i given n b = grind (arith, nat_tests, boundary-at_end t i)

pub returns-in-TryPush : goal.returns-in-TryPush
returns-in-TryPush g c =
    let long : c.len_utf8.result ≡ size (c.in-TryPush.ch ∷ []) = omega (arith, c.len_utf8.ensures.value, width-is c.in-TryPush.ch) in search rules

pub returns-in-PushStr : goal.returns-in-PushStr
returns-in-PushStr g c =
    let given = chars c.in-PushStr.given.now in
    rw (c.in-PushStr.is, c.lacks_room_for_bytes-in-PushStr.ensures, c.size_of_text-in-PushStr.ensures)
    (cut-over given (size c.args.text.now.text) (cap g.row.N) c.text_fits.ensures)

pub returns-then-index-len : goal.returns-then-index-len
returns-then-index-len g c =
    let ch = c.in-TryInsert.ch in
    let long : c.len_utf8-then-index-len.result ≡ size (ch ∷ []) = omega (arith, c.len_utf8-then-index-len.ensures.value, width-is ch) in
    search rules

pub returns-then-is_ok : goal.returns-then-is_ok
returns-then-is_ok g c =
    let t = c.args.text.now.text in
    let given = chars c.in-InsertStr.given.now in
    let b : boundary t c.in-InsertStr.index ≡ true = search rules in
    rw (
      c.in-InsertStr.is,
      c.lacks_room_for_bytes-then-is_ok.ensures,
      c.size_of_text-then-is_ok.ensures,
      made t c.in-InsertStr.index given (cap g.row.N) b,
    ) (cut-over given (size t) (cap g.row.N) c.text_fits.ensures)

pub returns-else-is_ok : goal.returns-else-is_ok
returns-else-is_ok g c =
    let t = c.args.text.now.text in
    let given = chars c.in-InsertStr.given.now in
    let b : boundary t c.in-InsertStr.index ≡ false = search rules in
    rw (c.in-InsertStr.is, unmade t c.in-InsertStr.index given (cap g.row.N) b) (search rules)
