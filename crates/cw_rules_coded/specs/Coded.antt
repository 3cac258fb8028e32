-- The rules over the real codeword, the real tree and the real bytes.
use Rattle.std.specs.Int.{w32, from_be_bytes}
use Rattle.std.specs.Prelude.{ℕ, ◌+◌, ◌^◌, ◌==◌, ◌&&◌, Bool, false, nat_lt, if◌then◌else◌}
use Rattle.std.specs.Prelude.{List, [], ◌∷◌, length, take, drop, map, flat_map, slice_index}
use Rattle.std.specs.Prelude.{Option, Some, None, unwrap_or, bytes_eq}
use Rattle.std.specs.List.{list_all}
use Rattle.std.specs.Option.{option_map_or}
use Rattle.cw_base.specs.declared.hash.Digest32.{Digest32}
use Rattle.cw_base.specs.Rows.{listed}
use Rattle.cw_base.specs.Counts.{Counts}
use Rattle.rs_code.specs.Rows.{code_row, joined, row_through}
use Rattle.cw_tree.specs.Tree.{path_of, root_by, root_of}
use Rattle.cw_coding.specs.Layout.{row_at}
use Rattle.cw_types.specs.Block.{Block}
use Rattle.cw_types.specs.Commit.{empty_digest}
pub use Rattle.cw_types.specs.Commit.{digest_bytes}
use Rattle.cw_types.specs.Encoding.{block_bytes, context_bytes}
use Rattle.cw_types.specs.Epochs.{Epochs}
use Rattle.cw_types.specs.Reading.{block_in}
use Rattle.cw_types.specs.Same.{same_digest}
use Rattle.cw_rules.specs.Rules.{Chunk, Rules}
use Rattle.cw_rules.specs.declared.travel.Travel.{Travel}
use Rattle.cw_rules.specs.declared.travel.Travel.TheVariants.{Chunked, Uncut}
use Rattle.cw_coding.specs.Totals.{total_of}

-- the k + m rows of a text's codeword
abbrev pub code_rows : List ℕ → ℕ → ℕ → List (List ℕ)
code_rows text k m = listed (k + m) (row_at k text)

-- the root of the tree over digests, of which there is at least one
abbrev pub root_over : (List ℕ → Digest32) → List Digest32 → Digest32
root_over hash digests = unwrap_or (root_of hash digest_bytes digests) empty_digest

-- the siblings of a chunk lead from its shard at its place to the root
abbrev pub leads_up : (List ℕ → Digest32) → Digest32 → Chunk → Bool
leads_up hash root x =
    option_map_or (same_digest root)
    (root_by hash digest_bytes x.leaf_count x.siblings x.index (hash x.shard)) false

-- the shards of chunks, end to end
abbrev pub shards_of : List Chunk → List ℕ
shards_of chunks = flat_map (λ c. c.shard) chunks

-- the place of the s-th chunk
abbrev pub place_at : List Chunk → ℕ → ℕ
place_at chunks s = slice_index (map (λ c. c.index) chunks) s

-- the width of the first chunk
abbrev pub width_of : List Chunk → ℕ
width_of [] = 0
width_of (c ∷ cs) = length c.shard

-- k rows of the codeword that has these chunks at their places
abbrev pub rebuilt : ℕ → List Chunk → List ℕ
rebuilt k chunks = joined k (row_through k (place_at chunks) (shards_of chunks) (width_of chunks))

-- the first k rows of that codeword
abbrev pub originals : ℕ → List Chunk → List ℕ
originals k chunks = joined k (code_row k (rebuilt k chunks) (width_of chunks))

-- the text that is laid out so: as many bytes as its first four say, behind them
abbrev pub text_in : List ℕ → List ℕ
text_in layout = take (from_be_bytes w32 (take 4 layout)) (drop 4 layout)

-- fewer than 2^32 bytes
abbrev pub is_text : List ℕ → Bool
is_text text = list_all (λ x. nat_lt x 256) text && nat_lt (length text) (2 ^ 32)

-- the chunk is a row of the text's codeword, at its place
abbrev pub is_row_of : Counts → List ℕ → Chunk → Bool
is_row_of x text c = nat_lt c.index (total_of x) && bytes_eq c.shard (row_at x.minimum text c.index)

-- the text, where these chunks are k rows of its codeword
abbrev pub if_codeword : Counts → List Chunk → List ℕ → Option (List ℕ)
if_codeword x chunks text =
    if (length chunks == x.minimum) && is_text text && list_all (is_row_of x text) chunks
    then Some text else None

-- the text of whose codeword these chunks are k rows
abbrev pub decoded : Counts → List Chunk → Option (List ℕ)
decoded x chunks = if_codeword x chunks (text_in (originals x.minimum chunks))

-- the rules over a hash, for blocks that travel so, with these committees, this backlog and this
-- application
abbrev pub ruled : Travel → (List ℕ → Digest32) → Epochs → ℕ → (Block → Block → Bool) → Rules
ruled travel hash epochs backlog accepts = record {
  travel = travel;
  epochs = epochs;
  backlog = backlog;
  hash = hash;
  block_bytes = block_bytes;
  context_bytes = context_bytes;
  code = code_rows;
  root = root_over hash;
  path = λ digests i. path_of hash digest_bytes i digests;
  leads_to = leads_up hash;
  text_of = decoded;
  read_block = block_in;
  accepts = accepts;
}

-- for blocks that travel in chunks
abbrev pub coded : (List ℕ → Digest32) → Epochs → ℕ → (Block → Block → Bool) → Rules
coded hash epochs backlog accepts = ruled Chunked hash epochs backlog accepts

-- for blocks that travel whole
abbrev pub uncut_rules : (List ℕ → Digest32) → Epochs → ℕ → (Block → Block → Bool) → Rules
uncut_rules hash epochs backlog accepts = ruled Uncut hash epochs backlog accepts
