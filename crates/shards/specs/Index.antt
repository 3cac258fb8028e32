-- Chunks by commitment and index, and the order in which they came.
use Rattle.std.specs.Prelude.{[], ℕ, ◌++◌, ◌<◌, ◌==◌, ◌∷◌, ◌≡◌, IsTrue, List, None, Option, Some, cond, filter_map, find, is_some, length, map, nat_eq, unwrap_or}
use Rattle.std.specs.List.{AllByRecursion}
use Rattle.std.specs.Map.{lookup}
use Rattle.std.specs.Option.{option_map}
use Rattle.cw_types.specs.Same.{same_commitment}
use Rattle.cw_types.specs.declared.commitment.Commitment.{Commitment}
use Rattle.cw_rules.specs.Rules.{Chunk}
use Rattle.shards.specs.Kept.{chunks_of}
use Rattle.shards.specs.declared.index.ChunkKey.{ChunkKey}
use Rattle.shards.specs.declared.pieces.KeptChunk.{KeptChunk}

-- the chunk of an index
abbrev pub with_index : ℕ → List Chunk → Option Chunk
with_index i chunks = find (λ x. x.index == i) chunks

-- ---- of one commitment

-- the chunks at these indices, in this order
abbrev pub chunks_at : List (ℕ × Chunk) → List ℕ → List Chunk
chunks_at entries came = filter_map (λ i. lookup (nat_eq i) entries) came

-- each index that came is that of its chunk, and a look-up finds what a search of the chunks does
pub record AreChunksIndexed (entries : List (ℕ × Chunk)) (came : List ℕ) : Type 0 where
  pub own : map (λ x. x.index) (chunks_at entries came) ≡ came
  pub found : (i : ℕ) → lookup (nat_eq i) entries ≡ with_index i (chunks_at entries came)

-- ---- of all commitments

-- the chunks of each commitment
abbrev pub ByCommitment : Type 0
ByCommitment = List (Commitment × List Chunk)

-- those of one commitment
abbrev pub chunks_by : ByCommitment → Commitment → List Chunk
chunks_by all c = unwrap_or (lookup (same_commitment c) all) []

-- the chunk that a key names, with its commitment
abbrev pub gathered_by : ByCommitment → ChunkKey → Option KeptChunk
gathered_by all q =
    option_map (λ x. record { commitment = q.commitment; chunk = x })
    (with_index q.index (chunks_by all q.commitment))

-- the chunks that keys name, in their order
abbrev pub all_gathered : ByCommitment → List ChunkKey → List KeptChunk
all_gathered all order = filter_map (gathered_by all) order

-- each key names a chunk, a look-up finds what a scan of the chunks does, and where it finds
-- something, that isn't empty
pub record AreGathered (all : ByCommitment) (order : List ChunkKey) : Type 0 where
  pub there : AllByRecursion (λ q. IsTrue (is_some (gathered_by all q))) order
  pub found : (c : Commitment) → chunks_by all c ≡ chunks_of c (all_gathered all order)
  pub some : (c : Commitment) (xs : List Chunk) → lookup (same_commitment c) all ≡ Some xs
      → 0 < length xs

-- ---- one more

-- the commitment has no chunk of that index
abbrev pub IsNewChunk : ByCommitment → Commitment → Chunk → Type 0
IsNewChunk all c x = with_index x.index (chunks_by all c) ≡ None

-- the new have one chunk more of the commitment
abbrev pub HasAdded : Commitment → Chunk → ByCommitment → ByCommitment → Type 0
HasAdded c x old new =
    (d : Commitment) → lookup (same_commitment d) new
    ≡ cond (same_commitment d c) (Some (chunks_by old c ++ x ∷ []))
    (lookup (same_commitment d) old)

-- a look-up in the new finds what one in the old does
abbrev pub HasStayed : ByCommitment → ByCommitment → Type 0
HasStayed old new =
    (d : Commitment) → lookup (same_commitment d) new ≡ lookup (same_commitment d) old
