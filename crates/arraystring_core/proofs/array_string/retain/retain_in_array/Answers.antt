use Rattle.std.proofs.Common.{◌≡◌, ◌+◌, ◌-◌, [], take, drop, chars, ap, ◌∙◌, arith, rules, refl}
use Rattle.std.proofs.lemmas.List.{append-nil}
use Rattle.std.proofs.lemmas.Str.{IsUtf8-nil, chars-nil}
use Rattle.arraystring_base.specs.Text.{width}
use Rattle.arraystring_core.proofs.RetainLemmas.{char-begins, callable-next, retained-moved, retained-left_out, unread, ascii-begins}
use Rattle.arraystring_core.proofs.EndLemmas.{low-width}
use Rattle.arraystring_core.proofs.array_string.retain.retain_in_array.Goals as goal
use Rattle.arraystring_core.proofs.array_string.retain.retain_in_array.Goals.{then-f, else-f, then-f-2, else-f-2}

pub loop-read-init : goal.loop-read-init
loop-read-init g c =
    let all : c.args.size - 0 ≡ c.args.size = omega arith in
    let first : c.args.offset + 0 ≡ c.args.offset = omega arith in
    record {
      long = c.told-array;
      kept_first = omega arith;
      read_within = omega arith;
      rest_text = rw (all, first) c.requires.text;
      kept_text = IsUtf8-nil;
      callable = rw (all, first) c.requires.callable;
      filtered = λ more h. rw chars-nil (rw (all, first) at h);
    }

pub f-requires : goal.f-requires
f-requires g c =
    let l = c.loop-read in
    callable-next l.invariant (omega arith) (ascii-begins l.array c.args.offset l.read c.args.size c.byte-first.ensures c.loop-read-test.true (omega arith) c.if-first-lt128.true)

pub loop-read-preserved-then-first-lt128 : goal.loop-read-preserved-then-first-lt128
loop-read-preserved-then-first-lt128 g c =
    let l = c.loop-read in
    let begins = ascii-begins l.array c.args.offset l.read c.args.size c.byte-first.ensures c.loop-read-test.true (omega arith) c.if-first-lt128.true in
    let one : width c.byte-first.result ≡ 1 =
    low-width _ c.if-first-lt128.true in
    elim c.if-f.branch [
      | then-f w ↦
          rw (w.array-is, w.kept-is)
          (rw one at (retained-moved l.invariant (omega arith) begins w.shift.new.array (rw one w.shift.ensures.bytes) c.f.new.self w.if-f.ensures))
      | else-f w ↦
          rw (w.array-is, w.kept-is) (rw one at (retained-left_out l.invariant (omega arith) begins c.f.new.self w.if-f.ensures))
    ]

pub f-requires-else-first-lt128 : goal.f-requires-else-first-lt128
f-requires-else-first-lt128 g c =
    let l = c.loop-read in
    let begins = char-begins l.array c.args.offset l.read c.args.size c.first_char_and_width-ch.result.0 c.first_char_and_width-ch.ensures.first.0 (c.from_utf8_unchecked-text.ensures ∙ c.part_of_length.ensures) (search rules) c.first_char_and_width-ch.ensures.first.1 in
    callable-next l.invariant (omega arith) begins

pub loop-read-preserved : goal.loop-read-preserved
loop-read-preserved g c =
    let l = c.loop-read in
    let begins = char-begins l.array c.args.offset l.read c.args.size c.first_char_and_width-ch.result.0 c.first_char_and_width-ch.ensures.first.0 (c.from_utf8_unchecked-text.ensures ∙ c.part_of_length.ensures) (search rules) c.first_char_and_width-ch.ensures.first.1 in
    let next : c.first_char_and_width-ch.result.1 ≡ width c.first_char_and_width-ch.result.0 = c.first_char_and_width-ch.ensures.width in
    elim c.if-f-2.branch [
      | then-f-2 w ↦
          rw (w.array-is, w.kept-is, next)
          (retained-moved l.invariant (omega arith) begins w.shift-then-f-2.new.array (rw next at w.shift-then-f-2.ensures.bytes) c.f-else-first-lt128.new.self w.if-f-2.ensures)
      | else-f-2 w ↦
          rw (w.array-is, w.kept-is, next) (retained-left_out l.invariant (omega arith) begins c.f-else-first-lt128.new.self w.if-f-2.ensures)
    ]

pub returns-clause-filtered : goal.returns-clause-filtered
returns-clause-filtered g c =
    let l = c.loop-read in
    let none : c.args.size - l.read ≡ 0 = omega arith in
    let over : chars (unread l.array c.args.offset l.read c.args.size) ≡ [] =
    ap (λ k. chars (take k (drop (c.args.offset + l.read) l.array))) none ∙ chars-nil in
    let filtered = rw over at l.invariant.filtered in
    rw (← append-nil (chars (take l.kept (drop c.args.offset l.array)))) (filtered [] ([], l.f, refl, refl, refl))
