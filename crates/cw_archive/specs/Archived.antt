-- What an archive keeps, as a record, and what is answered of it.
use Rattle.std.specs.Prelude.{[], ℕ, ◌&&◌, ◌==◌, ◌∷◌, Bool, List, None, Option, Some, filter_map, find, if◌then◌else◌, length, map, nat_le, nat_lt, sum_by, take}
use Rattle.std.specs.List.{range_with_len}
use Rattle.std.specs.Option.{option_and_then}
use Rattle.cw_base.specs.Counts.{Counts}
use Rattle.cw_base.specs.declared.hash.Digest32.{Digest32}
use Rattle.cw_types.specs.Block.{Block}
use Rattle.cw_types.specs.Encoding.{block_bytes, context_bytes}
use Rattle.cw_types.specs.Same.{same_commitment}
use Rattle.cw_types.specs.declared.commitment.Commitment.{Commitment}
use Rattle.cw_rules.specs.Rules.{Chunk, block_of, rows_under}
use Rattle.cw_coding.specs.Totals.{total_of}
use Rattle.cw_rules_coded.specs.Coded.{root_over}
use Rattle.shards.specs.Enough.{is_under_root, no_committees}
use Rattle.shards.specs.Kept.{chunk_rules, chunks_of, is_kept_chunk, with_chunk}
use Rattle.shards.specs.declared.pieces.KeptChunk.{KeptChunk}
use Rattle.cw_archive.specs.declared.put.Put.{Put}
use Rattle.cw_archive.specs.declared.put.Put.TheVariants.{Foreign, Kept, Known, TooLarge}

-- the most bytes that all shards may have, and the chunks, the oldest first, each with its
-- commitment
pub record Archived : Type 0 where
  pub limit : ℕ
  pub kept : List KeptChunk

-- ---- what is kept

-- how many bytes all shards have
abbrev pub used_of : List KeptChunk → ℕ
used_of kept = sum_by (λ k. length k.chunk.shard) kept

-- the chunk checks under the commitment's root and config at its own index
abbrev pub checks : (List ℕ → Digest32) → Commitment → Chunk → Bool
checks hash c x = nat_le (total_of c.config) 65535 && is_under_root hash c x

-- what is answered to a put: the first that holds
abbrev pub put_answer : (List ℕ → Digest32) → Archived → Commitment → Chunk → Put
put_answer hash a c x =
    if is_kept_chunk a.kept c x then Known
    else if checks hash c x then (if nat_lt a.limit (length x.shard) then TooLarge else Kept)
    else Foreign

-- what stays of chunks where the oldest leave as long as all shards have more bytes than the limit
abbrev pub within_limit : ℕ → List KeptChunk → List KeptChunk
within_limit limit [] = []
within_limit limit (k ∷ ks) =
    if nat_lt limit (used_of (k ∷ ks)) then within_limit limit ks else k ∷ ks

-- what an answer leaves: a chunk that is kept goes last, and the oldest leave; no other answer
-- changes anything
abbrev pub after_answer : Put → Archived → Commitment → Chunk → Archived
after_answer Kept a c x =
    record { limit = a.limit; kept = within_limit a.limit (with_chunk a.kept c x) }
after_answer _ a c x = a

-- the archive after a put
abbrev pub after_put : (List ℕ → Digest32) → Archived → Commitment → Chunk → Archived
after_put hash a c x = after_answer (put_answer hash a c x) a c x

-- ---- what is given back

-- the chunk that is kept of a commitment at an index
abbrev pub kept_chunk_at : Commitment → List KeptChunk → ℕ → Option Chunk
kept_chunk_at c kept i = find (λ x. x.index == i) (chunks_of c kept)

-- the chunks that are kept of a commitment, by index
abbrev pub by_index : Commitment → List KeptChunk → List Chunk
by_index c kept = filter_map (kept_chunk_at c kept) (range_with_len 0 (total_of c.config))

-- the k of least index
abbrev pub chunks_of_least_index : Commitment → List KeptChunk → List Chunk
chunks_of_least_index c kept = take c.config.minimum (by_index c kept)

-- what names a block that is cut by this config, whatever its epoch: the hash of its bytes, the
-- root of their codeword, the hash of its context's bytes, and the config
abbrev pub name_of : (List ℕ → Digest32) → Counts → Block → Commitment
name_of hash config b = record {
  block = hash (block_bytes b);
  root =
      root_over hash
      (map hash (rows_under (chunk_rules hash no_committees) config (block_bytes b)));
  context = hash (context_bytes b.context);
  config = config;
}

-- the block, where the commitment names it
abbrev pub if_named : (List ℕ → Digest32) → Commitment → Block → Option Block
if_named hash c b = if same_commitment (name_of hash c.config b) c then Some b else None

-- the block of whose bytes' codeword these chunks are k rows, where the commitment names it
abbrev pub shown_by_chunks : (List ℕ → Digest32) → Commitment → List Chunk → Option Block
shown_by_chunks hash c chunks =
    option_and_then (if_named hash c) (block_of (chunk_rules hash no_committees) c.config chunks)

-- the block that the kept chunks of a commitment give back: that of the k of least index
abbrev pub given_back : (List ℕ → Digest32) → Commitment → List KeptChunk → Option Block
given_back hash c kept = shown_by_chunks hash c (chunks_of_least_index c kept)
