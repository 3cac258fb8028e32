-- The bytes of proofs and chunks, and how they are read.
use Rattle.std.specs.Prelude.{ℕ, zero, suc, ◌-◌, ◌%◌, ◌^◌, min, nat_lt, if◌then◌else◌, List, [], ◌∷◌, ◌++◌, length, map, Ok, Err}
use Rattle.std.specs.List.{flat_map}
use Rattle.cw_base.specs.Bytes.{be16, be32, varint}
use Rattle.cw_base.specs.Reading.{Reading, ◌>>=◌, byte_at, bytes_at, be16_at, be32_at, varint_at}
use Rattle.cw_base.specs.declared.reader.CodecError.TheVariants.{TooLong}
use Rattle.cw_tree.specs.Chunks.{Piece}
use Rattle.cw_tree.specs.Widths.{shard_len}

-- A proof: four bytes of leaf count, a byte for the number of siblings, and the siblings. content
-- gives a digest's bytes.
unfoldable pub proof_bytes : {D : Type 0} → (content : D → List ℕ)
    → (leaf_count : ℕ) (siblings : List D) → List ℕ
proof_bytes content leaf_count siblings =
    be32 leaf_count ++ (length siblings % 2 ^ 8) ∷ flat_map content siblings

-- A chunk: the shard's length as a varint, the shard, two bytes of index, and the proof.
unfoldable pub chunk_bytes : {D : Type 0} → (content : D → List ℕ) → Piece D → List ℕ
chunk_bytes content p =
    varint (length p.shard % 2 ^ 32) ++ p.shard ++ be16 p.index
    ++ proof_bytes content p.leaf_count p.siblings

-- so many digests of size bytes each
abbrev pub digests_at : (size n : ℕ) → List ℕ → Reading (List (List ℕ))
digests_at size zero bytes = Ok ([], bytes)
digests_at size (suc n) bytes = do
  first ← bytes_at size bytes
  others ← digests_at size n first.1
  Ok (first.0 ∷ others.0, others.1)

-- at most 32 digests, behind their number
unfoldable pub siblings_at : (size : ℕ) → List ℕ → Reading (List (List ℕ))
siblings_at size bytes = do
  count ← byte_at bytes
  if nat_lt 32 count.0 then Err (TooLong, count.1) else digests_at size count.0 count.1

-- a leaf count and siblings
unfoldable pub proof_at : (size : ℕ) → List ℕ → Reading (ℕ × List (List ℕ))
proof_at size bytes = do
  leaf_count ← be32_at bytes
  siblings ← siblings_at size leaf_count.1
  Ok ((leaf_count.0, siblings.0), siblings.1)

-- the widest shard of k that a text of at most so many bytes has
abbrev pub widest : (k maximum : ℕ) → ℕ
widest k maximum = shard_len (min maximum (2 ^ 32 - 1)) k

-- a shard of at most so many bytes, behind its length
unfoldable pub shard_at : (bound : ℕ) → List ℕ → Reading (List ℕ)
shard_at bound bytes = do
  long ← varint_at bytes
  if nat_lt bound long.0 then Err (TooLong, long.1) else bytes_at long.0 long.1

-- a chunk, with a shard of at most so many bytes and siblings of size bytes each
unfoldable pub chunk_at : (size bound : ℕ) → List ℕ → Reading (Piece (List ℕ))
chunk_at size bound bytes = do
  shard ← shard_at bound bytes
  index ← be16_at shard.1
  proof ← proof_at size index.1
  Ok (
    record {
      shard = shard.0;
      index = index.0;
      leaf_count = proof.0.0;
      siblings = proof.0.1;
    },
    proof.1,
  )

-- a chunk, seen with the bytes of its siblings
abbrev pub piece_of_bytes : {D : Type 0} → (content : D → List ℕ) → Piece D → Piece (List ℕ)
piece_of_bytes content p =
    record {
      shard = p.shard;
      index = p.index;
      leaf_count = p.leaf_count;
      siblings = map content p.siblings;
    }
