use Rattle.std.proofs.Common.{◌∙◌}
use Rattle.arraystring_base.proofs.OrderLaws.{order-bytes, order-says}
use Rattle.arraystring_core.proofs.drain.traits.DrainOrd.cmp.Goals as goal

pub returns : goal.returns
returns g c =
    let borrowed = rw (c.as_str.ensures.bytes, c.as_str-2.ensures.bytes) at c.cmp.ensures in
    let same = borrowed ∙ order-bytes c.args.self.now.left c.args.other.now.left in
    record { order = same; of_bytes = borrowed; says = order-says c.args.self.now.left c.args.other.now.left _ same }
