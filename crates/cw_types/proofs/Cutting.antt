-- The bytes of each block can be cut in two parts or more.
use Rattle.std.proofs.Common.{ℕ, zero, suc, ◌+◌, ◌-◌, ◌*◌, ◌/◌, ◌%◌, ◌^◌, ◌<◌, ◌≤◌, length}
use Rattle.std.proofs.Common.{arith}
use Rattle.std.proofs.Math.Nat.{mul-le-mul_right}
use Rattle.cw_base.specs.Counts.{Counts}
use Rattle.cw_coding.specs.Encoding.{IsCodable, IsEncodable}
use Rattle.cw_coding.specs.Totals.{total_of}
use Rattle.cw_tree.proofs.WidthLaws.{product_fits}
use Rattle.cw_tree.specs.Widths.{shard_len}
use Rattle.cw_types.specs.Block.{Block}
use Rattle.cw_types.specs.Encoding.{block_bytes}
use Rattle.cw_types.specs.Values.{IsBlock}
use Rattle.cw_types.proofs.Sizes.{block_within}

-- shards of two parts or more are about half as wide as the text
half_wide : (n k : ℕ) → 2 ≤ k → 2 * shard_len n k ≤ n + 7
unfolding shard_len
half_wide n k h =
    let lower : k * ((n + 4 + (k - 1)) / k) ≤ n + 4 + (k - 1) = omega arith in
    go k ((n + 4 + (k - 1)) / k) h lower
  where
    go : (k q : ℕ) → 2 ≤ k → k * q ≤ n + 4 + (k - 1) → 2 * (q + q % 2) ≤ n + 7
    go k zero h l = omega arith
    go k (suc q) h l =
        let big : 2 * q ≤ k * q = mul-le-mul_right q h in
        omega arith

-- each text of fewer than 2^32 bytes is encoded in two parts or more
pub codable : (x : Counts) (n : ℕ) → 2 ≤ x.minimum → total_of x ≤ 65535 → n < 2 ^ 32 → IsCodable x n
codable x n some few short =
    let half = half_wide n x.minimum some in
    let fits = product_fits (total_of x) (shard_len n x.minimum) few (omega arith) in
    record { short = omega arith; narrow = omega arith; room = omega arith }

-- the bytes of each block are encoded in two parts or more
pub block_encodes : (x : Counts) (b : Block) → 2 ≤ x.minimum → total_of x ≤ 65535 → IsBlock b
    → IsEncodable x (length (block_bytes b))
block_encodes x b some few is =
    let short = block_within b is in
    record { total = few; codable = codable x (length (block_bytes b)) some few (omega arith) }
