-- What the rules of a cluster stand on, and what a block is committed to by.
use Rattle.std.specs.Prelude.{ℕ, ◌%◌, ◌&&◌, ◌==◌, Bool, List, Option, false, length, map, nat_lt, option_and_then, true}
use Rattle.std.specs.List.{enumerate_from}
use Rattle.cw_base.specs.Counts.{Counts}
use Rattle.cw_base.specs.declared.hash.Digest32.{Digest32}
use Rattle.cw_tree.specs.Chunks.{Piece}
use Rattle.cw_types.specs.Block.{Block}
use Rattle.cw_types.specs.Epochs.{Epochs, size}
use Rattle.cw_types.specs.Numbers.{config_for}
use Rattle.cw_types.specs.declared.block.Context.{Context}
use Rattle.cw_types.specs.declared.commitment.Commitment.{Commitment}
use Rattle.cw_coding.specs.Totals.{total_of}
use Rattle.cw_types.specs.Commit as first
use Rattle.cw_rules.specs.declared.travel.Travel.{Travel}
use Rattle.cw_rules.specs.declared.travel.Travel.TheVariants.{Chunked, Uncut}

-- a row of a codeword, with its place and its way up in the tree
abbrev pub Chunk : Type 0
Chunk = Piece Digest32

-- blocks travel in chunks
abbrev pub is_chunked : Travel → Bool
is_chunked Chunked = true
is_chunked Uncut = false

-- what lies below the rules, none of which they look into
pub record Rules : Type 0 where
  -- how blocks travel
  pub travel : Travel
  -- who the members are, epoch by epoch, and how many blocks may be pending
  pub epochs : Epochs
  pub backlog : ℕ
  -- the hash, and the bytes of what is hashed
  pub hash : List ℕ → Digest32
  pub block_bytes : Block → List ℕ
  pub context_bytes : Context → List ℕ
  -- the k + m rows of a text's codeword, the root of the tree over digests, and the siblings on the
  -- way up from a place in it
  pub code : List ℕ → ℕ → ℕ → List (List ℕ)
  pub root : List Digest32 → Digest32
  pub path : List Digest32 → ℕ → List Digest32
  -- the chunk's siblings lead from its row at its place to that root
  pub leads_to : Digest32 → Chunk → Bool
  -- the text of whose codeword these chunks are rows, and the block that a text is
  pub text_of : Counts → List Chunk → Option (List ℕ)
  pub read_block : List ℕ → Option Block
  -- the application accepts the first block over the second
  pub accepts : Block → Block → Bool

-- the same below, where blocks travel so, for other members, another backlog and another
-- application
abbrev pub among : Rules → Travel → Epochs → ℕ → (Block → Block → Bool) → Rules
among r travel epochs backlog accepts = record {
  travel = travel;
  epochs = epochs;
  backlog = backlog;
  hash = r.hash;
  block_bytes = r.block_bytes;
  context_bytes = r.context_bytes;
  code = r.code;
  root = r.root;
  path = r.path;
  leads_to = r.leads_to;
  text_of = r.text_of;
  read_block = r.read_block;
  accepts = accepts;
}

-- the config of a block among n members: a chunk for each, or that of a text that isn't cut
abbrev pub config_among : Travel → ℕ → Counts
config_among Chunked n = config_for n
config_among Uncut n = first.uncut

-- the config of an epoch
abbrev pub config : Rules → ℕ → Counts
config r epoch = config_among r.travel (size r.epochs epoch)

-- the rows of the codeword of a text under a config
abbrev pub rows_under : Rules → Counts → List ℕ → List (List ℕ)
rows_under r x text = r.code text x.minimum x.extra

-- the rows of a block's bytes under the config of its epoch
abbrev pub rows_of : Rules → Block → List (List ℕ)
rows_of r b = rows_under r (config r b.context.epoch) (r.block_bytes b)

-- row i of these, with its way up in the tree over their digests
abbrev pub row_chunk : Rules → List (List ℕ) → ℕ → List ℕ → Chunk
row_chunk r rows i row =
    record {
      shard = row;
      index = i;
      leaf_count = length rows;
      siblings = r.path (map r.hash rows) i;
    }

-- a block cut in chunks, in the order of their places
abbrev pub chunks : Rules → Block → List Chunk
chunks r b = map (λ at. row_chunk r (rows_of r b) at.0 at.1) (enumerate_from 0 (rows_of r b))

-- what a check of a chunk accepts: a place below k + m, an even width above zero, a tree of k + m
-- leaves, and a way up to the root
abbrev pub is_under : Rules → Commitment → Chunk → Bool
is_under r c x =
    nat_lt x.index (total_of c.config) && nat_lt 0 (length x.shard) && (length x.shard % 2 == 0)
    && (x.leaf_count == total_of c.config) && r.leads_to c.root x

-- the block whose bytes are the text of whose codeword these chunks are rows
abbrev pub block_of : Rules → Counts → List Chunk → Option Block
block_of r x chunks = option_and_then r.read_block (r.text_of x chunks)

-- the hash of a block's bytes
abbrev pub digest : Rules → Block → Digest32
digest r b = r.hash (r.block_bytes b)

-- the root that names a block: that of the tree over its rows, or its digest where it isn't cut
abbrev pub block_root : Travel → Rules → Block → Digest32
block_root Chunked r b = r.root (map r.hash (rows_of r b))
block_root Uncut r b = digest r b

-- what names a block: its digest, its root, the digest of its context, and its config
abbrev pub commit : Rules → Block → Commitment
commit r b =
    record {
      block = digest r b;
      root = block_root r.travel r b;
      context = r.hash (r.context_bytes b.context);
      config = config r b.context.epoch;
    }

-- the first block
abbrev pub genesis : Rules → Block
genesis r = first.genesis r.hash

-- what stands for genesis. It encodes to no root
abbrev pub genesis_commitment : Rules → Commitment
genesis_commitment r =
    record {
      block = digest r (genesis r);
      root = digest r (genesis r);
      context = r.hash (r.context_bytes (genesis r).context);
      config = first.uncut;
    }
