-- Chunks that were checked, as their callers see them.
use Rattle.std.specs.Prelude.{ℕ, List}

-- a chunk that was checked under a root, with its shard's digest
pub record Checked (D : Type 0) : Type 0 where
  pub root : D
  pub shard : List ℕ
  pub index : ℕ
  pub digest : D
