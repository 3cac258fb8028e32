-- The chunks that are kept, as a record of lists, and how the rules see them.
use Rattle.std.specs.Prelude.{[], ℕ, ◌++◌, ◌∷◌, Bool, IsTrue, List, filter, map, true}
use Rattle.std.specs.List.{AllByRecursion, list_any}
use Rattle.cw_base.specs.declared.hash.Digest32.{Digest32}
use Rattle.cw_types.specs.Epochs.{Epochs}
use Rattle.cw_types.specs.Same.{same_commitment}
use Rattle.cw_types.specs.declared.commitment.Commitment.{Commitment}
use Rattle.cw_rules.specs.Accepted.{Came, Part, Row, is_chunk_of, same_part}
use Rattle.cw_rules.specs.Coding.{AreApart}
use Rattle.cw_rules.specs.Rules.{Chunk, Rules}
use Rattle.cw_rules_coded.specs.Coded.{coded}
use Rattle.shards.specs.declared.pieces.KeptChunk.{KeptChunk}

-- the committees, and the chunks that were kept, in order
pub record Gathered : Type 0 where
  pub epochs : Epochs
  pub kept : List KeptChunk

-- the rules of these committees and of this hash. No chunk asks for the backlog or the application
abbrev pub chunk_rules : (List ℕ → Digest32) → Epochs → Rules
chunk_rules hash epochs = coded hash epochs 0 (λ b a. true)

-- a kept chunk, as a part that came
abbrev pub part_of : KeptChunk → Part
part_of k = Row k.commitment k.chunk

-- what came, where nothing but these chunks did
abbrev pub kept_came : List KeptChunk → Came
kept_came kept = record { ballots = []; parts = map part_of kept; wishes = [] }

-- one more chunk
abbrev pub with_chunk : List KeptChunk → Commitment → Chunk → List KeptChunk
with_chunk kept c x = kept ++ record { commitment = c; chunk = x } ∷ []

-- the chunks that were kept of a commitment
abbrev pub chunks_of : Commitment → List KeptChunk → List Chunk
chunks_of c kept = map (λ k. k.chunk) (filter (λ k. same_commitment c k.commitment) kept)

-- a chunk of that commitment and index was kept
abbrev pub is_kept_chunk : List KeptChunk → Commitment → Chunk → Bool
is_kept_chunk kept c x = list_any (λ k. same_part (Row c x) (part_of k)) kept

-- the rules take each kept chunk, and no two of one commitment have one index
pub record AreTakenOnce (r : Rules) (kept : List KeptChunk) : Type 0 where
  pub taken : (c : Commitment) → AllByRecursion (λ x. IsTrue (is_chunk_of r c x)) (chunks_of c kept)
  pub apart : (c : Commitment) → AreApart (chunks_of c kept)
