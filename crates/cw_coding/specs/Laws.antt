-- What holds of every encoding.
use Rattle.std.specs.Prelude.{◌≡◌, ℕ, ◌+◌, ◌*◌, ◌<◌, ◌≤◌, List, ◌++◌, length, slice_index, slice_get, Some, Ok, All}
use Rattle.cw_base.specs.Counts.{Counts}
use Rattle.rs_code.specs.Indices.{AreSound}
use Rattle.cw_tree.specs.Chunks.{Piece}
use Rattle.cw_tree.specs.Formats.{chunk_bytes, chunk_at, widest, piece_of_bytes}
use Rattle.cw_tree.specs.Fits.{FitsChunk}
use Rattle.cw_tree.specs.Sizes.{IsHeight}
use Rattle.cw_tree.specs.Widths.{shard_len}
use Rattle.cw_coding.specs.declared.error.ReedSolomonError.{ReedSolomonError}
use Rattle.cw_coding.specs.declared.error.ReedSolomonError.TheVariants.{NoMemory}
use Rattle.cw_coding.specs.Checked.{Checked}
use Rattle.cw_coding.specs.Checking.{IsUnder}
use Rattle.cw_coding.specs.Decoding.{IsDecoding, IsDecodeRefusal, indices_of}
use Rattle.cw_coding.specs.Encoding.{IsEncoding}
use Rattle.cw_coding.specs.Layout.{row_at}
use Rattle.cw_coding.specs.Totals.{total_of}

-- each chunk of an encoding checks at its index under the root
abbrev pub EncodingsCheck : {D : Type 0} → (hash : List ℕ → D) (content : D → List ℕ) → Type 0
EncodingsCheck {D} hash content =
    (c : Counts) (text : List ℕ) (root : D) (pieces : List (Piece D)) → 1 ≤ c.minimum
    → IsEncoding hash content c text root pieces →
    (i : ℕ) (p : Piece D) → slice_get pieces i ≡ Some p → IsUnder hash content c root i p

-- each chunk of an encoding of at most `most` bytes has no more bytes than the greatest shard size
abbrev pub EncodingsFit : {D : Type 0} → (hash : List ℕ → D) (content : D → List ℕ) (size : ℕ)
    → Type 0
EncodingsFit {D} hash content size =
    (c : Counts) (text : List ℕ) (root : D) (pieces : List (Piece D)) (most levels : ℕ)
    → 1 ≤ c.minimum → IsEncoding hash content c text root pieces →
    length text ≤ most → IsHeight (total_of c) levels →
    (i : ℕ) (p : Piece D) → slice_get pieces i ≡ Some p
    → length (chunk_bytes content p) ≤ 12 + shard_len most c.minimum + size * levels

-- a chunk that fits its format, with a shard of at most so many bytes, and is read as itself,
-- whatever follows it
pub record IsReadBack {D : Type 0} (content : D → List ℕ) (size bound : ℕ)
    (p : Piece D) : Type 0 where
  pub fits : FitsChunk size bound (piece_of_bytes content p)
  pub again : (rest : List ℕ)
      → chunk_at size bound (chunk_bytes content p ++ rest) ≡ Ok (piece_of_bytes content p, rest)

-- each chunk of an encoding of at most `most` bytes reads back, read with the maximum `most`
abbrev pub EncodingsReadBack : {D : Type 0} → (hash : List ℕ → D) (content : D → List ℕ) (size : ℕ)
    → Type 0
EncodingsReadBack {D} hash content size =
    (c : Counts) (text : List ℕ) (root : D) (pieces : List (Piece D)) (most : ℕ) → 1 ≤ c.minimum
    → IsEncoding hash content c text root pieces →
    length text ≤ most → (i : ℕ) (p : Piece D) → slice_get pieces i ≡ Some p
    → IsReadBack content size (widest c.minimum most) p

-- a checked chunk that carries a row of a text
pub record IsChunkOf {D : Type 0} (c : Counts) (text : List ℕ) (root : D)
    (x : Checked D) : Type 0 where
  pub rooted : x.root ≡ root
  pub within : x.index < total_of c
  pub row : x.shard ≡ row_at c.minimum text x.index

-- these chunks are decoded to this text, and to no other, and aren't refused but for want of memory
pub record AreDecodedTo {D : Type 0} (hash : List ℕ → D) (content : D → List ℕ) (c : Counts)
    (root : D) (chunks : List (Checked D)) (text : List ℕ) : Type 0 where
  pub decodes : IsDecoding hash content c root chunks text
  pub alone : (other : List ℕ) → IsDecoding hash content c root chunks other → other ≡ text
  pub taken : (e : ReedSolomonError) → IsDecodeRefusal hash content c root chunks e → e ≡ NoMemory

-- any chunks of different indices of one encoding, at least the minimum, are decoded to its text
abbrev pub AnyEnoughDecode : {D : Type 0} → (hash : List ℕ → D) (content : D → List ℕ) → Type 0
AnyEnoughDecode {D} hash content =
    (c : Counts) (text : List ℕ) (root : D) (pieces : List (Piece D)) (chunks : List (Checked D))
    → 1 ≤ c.minimum →
    ((i : ℕ) → slice_index text i < 256) → IsEncoding hash content c text root pieces →
    All (IsChunkOf c text root) chunks → AreSound (total_of c) (indices_of chunks)
    → c.minimum ≤ length chunks →
    AreDecodedTo hash content c root chunks text
