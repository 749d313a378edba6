use Rattle.std.proofs.Common.{◌≡◌, ◌≢◌, ℕ, List, map, not, ◌+◌, ◌≤◌, ◌∙◌, sym, ap, arith, take, drop, eqb, eqb-true, w8, length, length-take, length-drop}
use Rattle.std.specs.List.{prefix_len}
use Rattle.std.proofs.lemmas.Bool.{eqb-false}
use Rattle.std.proofs.lemmas.Simd.{bitmask_splat, none_from_empty_mask, trailing_mask_l, run_in_chunk_le, run_in_chunk_fails, run_in_chunk_stops}
use lib.Count.{count_trailing_zeros}
use lib.Lanes.{mask_l}
use Rattle.arraystring_run.proofs.find.position_or_block_size.Goals as goal

-- a block has 16 bytes
long : (bytes : List ℕ) (at : ℕ) → at + 16 ≤ length bytes → length (take 16 (drop at bytes)) ≡ 16
long bytes at le = omega (arith, length-take 16 (drop at bytes), length-drop at bytes)

-- the mask of a block counts the bytes before the first that is wanted
counted : (bytes : List ℕ) (at wanted : ℕ) (found : ℕ) → at + 16 ≤ length bytes → found ≡ mask_l (map (λ x. eqb x wanted) (take 16 (drop at bytes))) → found ≢ 0
    → count_trailing_zeros 64 found ≡ prefix_len (λ x. not (eqb x wanted)) (take 16 (drop at bytes))
counted bytes at wanted found le mask some =
    ap (count_trailing_zeros 64) mask ∙ trailing_mask_l (λ x. eqb x wanted) 64 (take 16 (drop at bytes)) (omega (arith, long bytes at le)) (omega arith)

pub returns-then-found-eq0-clause-before : goal.returns-then-found-eq0-clause-before
returns-then-found-eq0-clause-before c k ge lt =
    let mask = bitmask_splat w8 eqb _ 16 c.args.wanted (long c.args.bytes.now c.args.at c.requires) (omega arith) in
    eqb-false _ _ (none_from_empty_mask (λ x. eqb x c.args.wanted) c.args.bytes.now c.args.at 16 0 c.requires (sym mask ∙ c.if-found-eq0.true) k ge lt)

pub returns-clause-at_most : goal.returns-clause-at_most
returns-clause-at_most c =
    let mask = bitmask_splat w8 eqb _ 16 c.args.wanted (long c.args.bytes.now c.args.at c.requires) (omega arith) in
    run_in_chunk_le (λ x. eqb x c.args.wanted) c.args.bytes.now c.args.at 16 _ 0 c.requires (counted c.args.bytes.now c.args.at _ _ c.requires mask c.if-found-eq0.false)

pub returns-clause-found : goal.returns-clause-found
returns-clause-found c lt =
    let mask = bitmask_splat w8 eqb _ 16 c.args.wanted (long c.args.bytes.now c.args.at c.requires) (omega arith) in
    eqb-true _ _ (run_in_chunk_stops (λ x. eqb x c.args.wanted) c.args.bytes.now c.args.at 16 _ 0 c.requires (counted c.args.bytes.now c.args.at _ _ c.requires mask c.if-found-eq0.false) lt)

pub returns-clause-before : goal.returns-clause-before
returns-clause-before c k ge lt =
    let mask = bitmask_splat w8 eqb _ 16 c.args.wanted (long c.args.bytes.now c.args.at c.requires) (omega arith) in
    eqb-false _ _ (run_in_chunk_fails (λ x. eqb x c.args.wanted) c.args.bytes.now c.args.at 16 _ 0 c.requires (counted c.args.bytes.now c.args.at _ _ c.requires mask c.if-found-eq0.false) k ge lt)
