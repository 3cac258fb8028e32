-- Chunks in a map by key, and the keys in the order in which they came.
use Rattle.std.specs.Prelude.{ℕ, ◌&&◌, ◌==◌, ◌≡◌, Bool, List, Option, Some, filter_map, is_some}
use Rattle.std.specs.List.{IsDistinct, list_any}
use Rattle.std.specs.Map.{lookup}
use Rattle.std.specs.Option.{option_map}
use Rattle.cw_types.specs.Same.{same_commitment}
use Rattle.cw_types.specs.declared.commitment.Commitment.{Commitment}
use Rattle.cw_rules.specs.Rules.{Chunk}
use Rattle.shards.specs.declared.pieces.KeptChunk.{KeptChunk}
use Rattle.cw_archive.specs.declared.key.ChunkKey.{ChunkKey}

-- the key of the chunk of a commitment and an index
abbrev pub chunk_key : Commitment → ℕ → ChunkKey
chunk_key c i =
    record {
      block = c.block;
      root = c.root;
      context = c.context;
      minimum = c.config.minimum;
      extra = c.config.extra;
      index = i;
    }

-- the commitment that a key names
abbrev pub commitment_of : ChunkKey → Commitment
commitment_of q =
    record {
      block = q.block;
      root = q.root;
      context = q.context;
      config = record { minimum = q.minimum; extra = q.extra };
    }

-- the keys of one commitment and index
abbrev pub same_chunk_key : ChunkKey → ChunkKey → Bool
same_chunk_key a b = same_commitment (commitment_of a) (commitment_of b) && (a.index == b.index)

-- the chunk at a key
abbrev pub at_key : List (ChunkKey × Chunk) → ChunkKey → Option Chunk
at_key entries q = lookup (same_chunk_key q) entries

-- the chunk at a key, with the commitment that the key names
abbrev pub kept_by : List (ChunkKey × Chunk) → ChunkKey → Option KeptChunk
kept_by entries q =
    option_map (λ x. record { commitment = commitment_of q; chunk = x }) (at_key entries q)

-- the chunks at keys, in their order
abbrev pub kept_at_keys : List (ChunkKey × Chunk) → List ChunkKey → List KeptChunk
kept_at_keys entries order = filter_map (kept_by entries) order

-- the keys that stand in the order, each once, are those that have a chunk, which is of the key's
-- index
pub record IsInOrder (entries : List (ChunkKey × Chunk)) (order : List ChunkKey) : Type 0 where
  pub once : IsDistinct same_chunk_key order
  pub there : (q : ChunkKey) → is_some (at_key entries q) ≡ list_any (same_chunk_key q) order
  pub own : (q : ChunkKey) (x : Chunk) → at_key entries q ≡ Some x → x.index ≡ q.index
