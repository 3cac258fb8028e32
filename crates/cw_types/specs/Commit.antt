-- The commitment of a block and its chunks, and the first block of the chain.
use Rattle.std.specs.Prelude.{ℕ, List, [], ◌++◌, replicate, unwrap_or}
use Rattle.cw_base.specs.declared.hash.Digest32.{Digest32}
use Rattle.cw_base.specs.Counts.{Counts}
use Rattle.cw_types.specs.declared.commitment.Commitment.{Commitment}
use Rattle.cw_types.specs.declared.block.Context.{Context}
use Rattle.cw_types.specs.Block.{Block}
use Rattle.cw_types.specs.Encoding.{block_bytes, context_bytes}
use Rattle.cw_types.specs.Numbers.{config_for}
use Rattle.cw_base.specs.Bytes.{be64, varint}
use Rattle.cw_base.specs.Rows.{listed}
use Rattle.cw_tree.specs.Chunks.{Piece}
use Rattle.cw_coding.specs.Encoding.{piece_of, root_of_text}
use Rattle.cw_coding.specs.Totals.{total_of}

-- the bytes of a digest
abbrev pub digest_bytes : Digest32 → List ℕ
digest_bytes d = d.0

-- thirty-two zero bytes
abbrev pub empty_digest : Digest32
empty_digest = record { 0 = replicate 32 0 }

-- the root of a text: that of the tree over the digests of the k + m rows of its codeword
abbrev pub text_root : (List ℕ → Digest32) → Counts → List ℕ → Digest32
text_root hash config text = unwrap_or (root_of_text hash digest_bytes config text) empty_digest

-- what names a block among n members: its digest, the root of its bytes, its context's digest, and
-- their config
abbrev pub commit : (List ℕ → Digest32) → (n : ℕ) → Block → Commitment
commit hash n b =
    record {
      block = hash (block_bytes b);
      root = text_root hash (config_for n) (block_bytes b);
      context = hash (context_bytes b.context);
      config = config_for n;
    }

-- the k + m chunks of a block among n members: the rows of its bytes, each with its way up to the
-- root
abbrev pub block_chunks : (List ℕ → Digest32) → (n : ℕ) → Block → List (Piece Digest32)
block_chunks hash n b =
    listed (total_of (config_for n)) (piece_of hash digest_bytes (config_for n) (block_bytes b))

-- one shard holds the text, and one is added
abbrev pub uncut : Counts
uncut = record { minimum = 1; extra = 1 }

-- the commitment that the first block names as its parent's
abbrev pub no_commitment : Commitment
no_commitment =
    record { block = empty_digest; root = empty_digest; context = empty_digest; config = uncut }

-- the context of the first block
abbrev pub first_context : Context
first_context = record { epoch = 0; view = 0; leader = 0; parent_view = 0; parent = no_commitment }

-- the first block: no view, no payload, and the empty text as its parent
abbrev pub genesis : (List ℕ → Digest32) → Block
genesis hash = record { context = first_context; parent = hash []; height = 0; payload = [] }

-- what names the first block: it stands for its digest, not for a root that it encodes to
abbrev pub genesis_commitment : (List ℕ → Digest32) → Commitment
genesis_commitment hash =
    record {
      block = hash (block_bytes (genesis hash));
      root = hash (block_bytes (genesis hash));
      context = hash (context_bytes first_context);
      config = uncut;
    }

-- the bytes of the first block behind its context
abbrev pub first_rest : Digest32 → List ℕ
first_rest parent = parent.0 ++ be64 0 ++ varint 0
