-- Chunks, as their callers see them.
use Rattle.std.specs.Prelude.{ℕ, List}

-- a chunk: a shard, its index, and the way up from it in a tree of so many leaves
pub record Piece (D : Type 0) : Type 0 where
  pub shard : List ℕ
  pub index : ℕ
  pub leaf_count : ℕ
  pub siblings : List D
