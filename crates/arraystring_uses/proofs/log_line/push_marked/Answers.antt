use Rattle.std.proofs.Common.{rules, ℕ, List, IsUtf8, ◌≡◌, ◌≤◌, ◌+◌, ◌-◌, ◌++◌, ◌∷◌, [], arith, ap, sym, ◌∙◌, refl}
use Rattle.std.specs.Str.{chars}
use Rattle.arraystring.specs.Text.{size, width, bytes, cut}
use Rattle.arraystring.proofs.TextLaws.{size-append, chars-bytes}
use Rattle.arraystring.proofs.CutLaws.{cut-fits, cut-past_part}
use Rattle.arraystring_uses.proofs.log_line.push_marked.Goals as goal

mark_width : width 0x2026 ≡ 3
unfolding width
mark_width = refl

-- the line takes the part that fits into the bytes left
module _ (line text part_bytes : List ℕ) (room : ℕ) (within : size line ≤ 61) (left : room ≡ 61 - size line)
    (spelled : IsUtf8 part_bytes) (is : part_bytes ≡ bytes (cut text room)) where
  part_is : chars part_bytes ≡ cut text room
  part_is = chars-bytes spelled is

  together-fits : size line + size (chars part_bytes) ≤ 61
  together-fits = omega (arith, ap size part_is, cut-fits text room)

  together : line ++ chars part_bytes ≡ cut (line ++ text) 61
  together = ap (λ l. line ++ l) part_is ∙ ap (λ n. line ++ cut text n) left ∙ sym (cut-past_part line text 61 within)

pub push_str_unchecked-requires : goal.push_str_unchecked-requires
push_str_unchecked-requires c =
    let kept = c.in-Err.ensures.err in
    let left : 61 - c.len.result ≡ 61 - size c.args.line.now.text = omega (arith, ap size kept) in
    let room : size c.try_push_str.new.self.text + size (chars c.truncate_str.result.now) ≤ 64 = omega (arith, together-fits c.args.line.now.text (chars c.args.text.now) _ _ c.requires left c.truncate_str.utf8 c.truncate_str.ensures, ap size kept) in
    (search rules, room)

pub push_unchecked-requires : goal.push_unchecked-requires
push_unchecked-requires c =
    let kept = c.in-Err.ensures.err in
    let left : 61 - c.len.result ≡ 61 - size c.args.line.now.text = omega (arith, ap size kept) in
    let room : size c.push_str_unchecked.new.self.text + width 0x2026 ≤ 64 =
    omega (arith, together-fits c.args.line.now.text (chars c.args.text.now) _ _ c.requires left c.truncate_str.utf8 c.truncate_str.ensures, mark_width, ap size kept, ap size c.push_str_unchecked.ensures, size-append c.try_push_str.new.self.text (chars c.truncate_str.result.now)) in
    (search rules, room)

pub returns-in-Err-clause-cut : goal.returns-in-Err-clause-cut
returns-in-Err-clause-cut c over =
    let kept = c.in-Err.ensures.err in
    let left : 61 - c.len.result ≡ 61 - size c.args.line.now.text = omega (arith, ap size kept) in
    c.push_unchecked.ensures
    ∙ ap (λ l. l ++ 0x2026 ∷ []) (c.push_str_unchecked.ensures ∙ ap (λ l. l ++ chars c.truncate_str.result.now) kept
    ∙ together c.args.line.now.text (chars c.args.text.now) _ _ c.requires left c.truncate_str.utf8 c.truncate_str.ensures)
