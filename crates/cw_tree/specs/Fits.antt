-- What proofs and chunks must be to be read back as they were written.
use Rattle.std.specs.Prelude.{ℕ, ◌^◌, ◌<◌, ◌≤◌, List, length}
use Rattle.cw_tree.specs.Chunks.{Piece}
use Rattle.cw_tree.specs.Sizes.{AreSized}

-- a proof that fits its format: its leaf count, and the bytes of its siblings, of size bytes each
pub record FitsProof (size : ℕ) (p : ℕ × List (List ℕ)) : Type 0 where
  pub leaf_count : p.0 < 2 ^ 32
  pub few : length p.1 ≤ 32
  pub digests : AreSized (λ digest. digest) size p.1

-- a chunk that fits its format, with a shard of at most so many bytes
pub record FitsChunk (size bound : ℕ) (p : Piece (List ℕ)) : Type 0 where
  pub narrow : length p.shard ≤ bound
  pub short : length p.shard < 2 ^ 32
  pub index : p.index < 2 ^ 16
  pub proof : FitsProof size (p.leaf_count, p.siblings)
