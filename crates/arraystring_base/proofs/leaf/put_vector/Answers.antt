use Rattle.std.proofs.Common.{◌≡◌, ◌+◌, ◌-◌, length, take, drop, arith, length-take, length-drop, drop-drop, ℕ}
use Rattle.std.proofs.lemmas.Simd.{put_chunk_whole}
use Rattle.arraystring_base.proofs.leaf.put_vector.Goals as goal

pub returns : goal.returns
returns g c =
    let size : c.args.at + g.row.K - c.args.at ≡ g.row.K = omega arith in
    let part = take g.row.K (drop c.args.at c.args.all.now) in
    let long : length part ≡ length c.args.bytes = omega (arith, length-take {A = ℕ}, length-drop {A = ℕ}) in
    rw (size, put_chunk_whole part c.args.bytes long, drop-drop)
