use Rattle.std.proofs.Common.{◌≡◌, ◌≢◌, ◌<◌, ◌≤◌, ℕ, suc, zero, List, [], ◌∷◌, arith, ap, subst, length, slice_index, slice_range, take, take_all, take-append-drop}
use Rattle.std.proofs.lemmas.List.{drop_more}
use Rattle.std.proofs.lemmas.Str.{lead_after_ascii}
use Rattle.arraystring_run.specs.CommandLines.{HasNoSpace, space}
use Rattle.arraystring_run.proofs.line.split_at_space.Goals as goal

-- the bytes before the first space are one word
word-before : (bs : List ℕ) (n : ℕ) → n ≤ length bs → ((i : ℕ) → i < n → slice_index bs i ≢ space) → HasNoSpace (take n bs)
word-before [] zero le other = tt
word-before [] (suc n) le other = tt
word-before (b ∷ bs) zero le other = tt
word-before (b ∷ bs) (suc n) le other = (other 0 (omega arith), word-before bs n (omega arith) (λ i lt. other (suc i) (omega arith)))

pub returns-then-end-text-clause-none : goal.returns-then-end-text-clause-none
returns-then-end-text-clause-none c =
    let bs = c.args.text.now in
    let end = c.byte_position_or_len-end.result in
    let before = subst (λ l. (i : ℕ) → i < end → slice_index l i ≢ space) c.as_bytes.ensures.value c.byte_position_or_len-end.ensures.before in
    subst HasNoSpace (take_all (length bs) bs (omega arith)) (word-before bs (length bs) (omega arith) (λ i lt. before i (omega arith)))

pub range_from-requires : goal.range_from-requires
range_from-requires c =
    let bs = c.args.text.now in
    let end = c.byte_position_or_len-end.result in
    let found = c.byte_position_or_len-end.ensures in
    let within : end < length bs = omega (arith, ap length c.as_bytes.ensures.value) in
    let is = subst (λ l. end < length l → slice_index l end ≡ space) c.as_bytes.ensures.value found.found within in
    λ _. (omega arith, lead_after_ascii bs end c.utf8.text (omega arith))

pub returns-clause-some : goal.returns-clause-some
returns-clause-some c =
    let bs = c.args.text.now in
    let end = c.byte_position_or_len-end.result in
    let found = c.byte_position_or_len-end.ensures in
    let within : end < length bs = omega (arith, ap length c.as_bytes.ensures.value) in
    let is = subst (λ l. end < length l → slice_index l end ≡ space) c.as_bytes.ensures.value found.found within in
    let before = subst (λ l. (i : ℕ) → i < end → slice_index l i ≢ space) c.as_bytes.ensures.value found.before in
    let front : slice_range bs 0 end ≡ take end bs = grind arith in
    rw (c.range.ensures.value, front, c.range_from.ensures.value) (
      cc (take-append-drop end bs, drop_more bs end 0 within, is),
      word-before bs end (omega arith) before,
    )
