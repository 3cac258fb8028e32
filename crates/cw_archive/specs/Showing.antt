-- Chunks that are enough to show a block, and what they show.
use Rattle.std.specs.Prelude.{[], ◌++◌, ◌∷◌, ◌≡◌, ◌≤◌, ℕ, IsTrue, List, Some, length}
use Rattle.std.specs.List.{AllByRecursion}
use Rattle.cw_base.specs.declared.hash.Digest32.{Digest32}
use Rattle.cw_types.specs.Block.{Block}
use Rattle.cw_types.specs.Encoding.{block_bytes}
use Rattle.cw_types.specs.Reading.{block_in}
use Rattle.cw_types.specs.declared.commitment.Commitment.{Commitment}
use Rattle.cw_rules.specs.Coding.{AreApart, AreBytes, AreRowsOf, IsText}
use Rattle.cw_rules.specs.Rules.{Chunk}
use Rattle.shards.specs.Enough.{AreOfText, no_committees}
use Rattle.shards.specs.Kept.{chunk_rules}
use Rattle.shards.specs.declared.pieces.KeptChunk.{KeptChunk}
use Rattle.cw_archive.specs.Archived.{checks, name_of, used_of}

-- each chunk checks under the commitment
abbrev pub AreChecked : (List ℕ → Digest32) → Commitment → List Chunk → Type 0
AreChecked hash c chunks = AllByRecursion (λ x. IsTrue (checks hash c x)) chunks

-- as many chunks as give a text back, which check under the commitment at different places
pub record AreSufficient (hash : List ℕ → Digest32) (c : Commitment)
    (chunks : List Chunk) : Type 0 where
  pub some : 1 ≤ c.config.minimum
  pub enough : length chunks ≡ c.config.minimum
  pub check : AreChecked hash c chunks
  pub apart : AreApart chunks

-- what an archive holds true of what it keeps: the bytes of all shards are counted and are within
-- the limit, and each chunk checks under its commitment and has bytes
pub record IsWithin (hash : List ℕ → Digest32) (limit used : ℕ)
    (kept : List KeptChunk) : Type 0 where
  pub counted : used ≡ used_of kept
  pub within : used ≤ limit
  pub check : AllByRecursion (λ k. IsTrue (checks hash k.commitment k.chunk)) kept
  pub bytes : AllByRecursion (λ k. AreBytes k.chunk.shard) kept

-- the chunks are k rows, at their places, of the codeword of the bytes of a block, which are read
-- as that block and which the commitment names
pub record Shows (hash : List ℕ → Digest32) (c : Commitment) (chunks : List Chunk)
    (b : Block) : Type 0 where
  pub enough : length chunks ≡ c.config.minimum
  pub text : IsText (block_bytes b)
  pub back : block_in (block_bytes b) ≡ Some b
  pub rows : AreRowsOf (chunk_rules hash no_committees) c.config chunks (block_bytes b)
  pub named : name_of hash c.config b ≡ c

-- the newest chunk's shard has so many bytes, and those of the others so many
pub record HasNewest (width used : ℕ) (kept : List KeptChunk) : Type 0 where
  pub others : List KeptChunk
  pub newest : KeptChunk
  pub is : kept ≡ others ++ newest ∷ []
  pub wide : length newest.chunk.shard ≡ width
  pub counted : used ≡ used_of others

-- no text that is as short as a block's is what these chunks are rows of, under the commitment's
-- root
abbrev pub IsOfNoBlock : (List ℕ → Digest32) → Commitment → List Chunk → Type 0
IsOfNoBlock hash c chunks =
    (text : List ℕ) → length text ≤ 1048745 → AreOfText hash c chunks text → ⊥
