use Rattle.std.proofs.Common.{sym, ap, ◌∙◌, drop, take}
use Rattle.arraystring_base.specs.Text.{front}
use Rattle.arraystring_base.proofs.BoundaryLaws.{boundary-to_bytes, boundary-in_front, bytes-front, bytes-part}
use Rattle.arraystring_base.proofs.TextLaws.{chars-bytes}
use Rattle.arraystring_core.proofs.array_string.ArrayString.slice_unchecked.Goals as goal

pub text_before_boundary-requires : goal.text_before_boundary-requires
text_before_boundary-requires g c =
    boundary-to_bytes c.args.self.now.text c.as_str.result.now c.args.end c.as_str.utf8 (sym c.as_str.ensures.bytes) c.requires.end

pub text_from_boundary-requires : goal.text_from_boundary-requires
text_from_boundary-requires g c =
    let t = c.args.self.now.text in
    let before = c.text_before_boundary.ensures ∙ ap (take c.args.end) c.as_str.ensures.bytes ∙ bytes-front t c.args.end c.requires.end in
    boundary-to_bytes (front t c.args.end) c.text_before_boundary.result.now c.args.start c.text_before_boundary.utf8 (sym before)
    (boundary-in_front t c.args.start c.args.end c.requires.order c.requires.start)

pub returns : goal.returns
returns g c =
    let spelled =
    c.text_from_boundary.ensures ∙ ap (drop c.args.start) (c.text_before_boundary.ensures ∙ ap (take c.args.end) c.as_str.ensures.bytes)
    ∙ bytes-part c.args.self.now.text c.args.start c.args.end c.requires.order c.requires.start c.requires.end in
    record { bytes = spelled; chars = chars-bytes c.text_from_boundary.utf8 spelled }
