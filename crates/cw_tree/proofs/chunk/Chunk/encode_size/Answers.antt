use Rattle.std.proofs.Common.{◌≡◌, ℕ, ◌%◌, ◌^◌, List, length, ap, ◌∙◌, arith}
use Rattle.std.specs.List.{flat_map}
use Rattle.cw_base.specs.Bytes.{varint}
use Rattle.cw_tree.proofs.Bounds.{length-chunk_bytes}
use Rattle.cw_tree.proofs.chunk.Chunk.encode_size.Goals as goal

pub returns : goal.returns
returns g c =
    let content = g.D.Digest.content in
    let shard : c.shard-width.result.now ≡ c.args.self.now.shard = c.shard-width.ensures in
    let front = ap (λ (xs : List ℕ). length (varint (length xs % 2 ^ 32))) shard in
    let same : c.as_slice.result.now ≡ c.args.self.now.siblings =
    c.as_slice.ensures ∙ c.proof.ensures.siblings in
    let digests = ap (λ ds. length (flat_map content ds)) same in
    omega (
      arith,
      length-chunk_bytes content c.args.self.now,
      ap length shard,
      front,
      digests,
      c.varint_size.ensures.size,
    )
