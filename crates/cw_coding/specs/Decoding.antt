-- What chunks are decoded, and to what.
use Rattle.std.specs.Prelude.{◌≡◌, ◌≢◌, ℕ, ◌-◌, ◌*◌, ◌^◌, ◌<◌, ◌≤◌, ◌==◌, nat_lt, not, if◌then◌else◌, ◌⊎◌, List, [], ◌∷◌, ◌++◌, length, take, map, filter, All, Contains, Some, slice_get, slice_index}
use Rattle.cw_base.specs.Counts.{Counts}
use Rattle.cw_base.specs.Rows.{row_of}
use Rattle.rs_code.specs.Indices.{AreSound}
use Rattle.cw_coding.specs.Checked.{Checked}
use Rattle.cw_coding.specs.Layout.{row_at, row_digests}
use Rattle.cw_coding.specs.Totals.{total_of, IsWidth}
use Rattle.cw_tree.specs.Tree.{root_of}
use Rattle.cw_coding.specs.declared.error.RsError.TheVariants.{InvalidShardSize}
use Rattle.cw_coding.specs.declared.error.ReedSolomonError.{ReedSolomonError}
use Rattle.cw_coding.specs.declared.error.ReedSolomonError.TheVariants.{ReedSolomon, Inconsistent, NotEnoughChunks, DuplicateIndex, InvalidIndex, TooManyTotalShards, CommitmentMismatch, NoMemory}

-- the indices of chunks, in their order
abbrev pub indices_of : {D : Type 0} → List (Checked D) → List ℕ
indices_of chunks = map (λ c. c.index) chunks

-- chunks of this root and width, and of different indices below the total
pub record FitTogether {D : Type 0} (total : ℕ) (root : D) (width : ℕ)
    (chunks : List (Checked D)) : Type 0 where
  pub roots : All (λ c. c.root ≡ root) chunks
  pub widths : All (λ c. length c.shard ≡ width) chunks
  pub indices : AreSound total (indices_of chunks)

-- why a chunk is refused beside those before it
abbrev pub IsMisfit : {D : Type 0}
    → (total : ℕ) (root : D) (width : ℕ) (before : List (Checked D)) (c : Checked D)
    → ReedSolomonError → Type 0
IsMisfit total root width before c CommitmentMismatch = c.root ≢ root
IsMisfit total root width before c Inconsistent = (c.root ≡ root) × (length c.shard ≢ width)
IsMisfit total root width before c (InvalidIndex i) =
    (c.root ≡ root) × (length c.shard ≡ width) × (i ≡ c.index) × (total ≤ c.index)
IsMisfit total root width before c (DuplicateIndex i) =
    (c.root ≡ root) × (length c.shard ≡ width) × (i ≡ c.index) × (c.index < total)
    × Contains (indices_of before) c.index
IsMisfit total root width before c _ = ⊥

-- the first chunk that doesn't fit those before it, and why
pub record IsFirstMisfit {D : Type 0} (total : ℕ) (root : D) (width : ℕ) (chunks : List (Checked D))
    (e : ReedSolomonError) : Type 0 where
  pub place : ℕ
  pub chunk : Checked D
  pub at : slice_get chunks place ≡ Some chunk
  pub before : FitTogether total root width (take place chunks)
  pub misfit : IsMisfit total root width (take place chunks) chunk e

-- the width of the first chunk
abbrev pub width_of : {D : Type 0} → List (Checked D) → ℕ
width_of [] = 0
width_of (c ∷ _) = length c.shard

-- chunks that are decoded, if they come of a text
pub record AreDecodable {D : Type 0} (c : Counts) (root : D)
    (chunks : List (Checked D)) : Type 0 where
  pub total : total_of c ≤ 65535
  pub some : 0 < length chunks
  pub width : IsWidth (total_of c) (width_of chunks)
  pub fit : FitTogether (total_of c) root (width_of chunks) chunks
  pub enough : c.minimum ≤ length chunks

-- too few chunks, all of which fit together
pub record AreTooFew {D : Type 0} (c : Counts) (root : D) (chunks : List (Checked D)) : Type 0 where
  pub width : IsWidth (total_of c) (width_of chunks)
  pub fit : FitTogether (total_of c) root (width_of chunks) chunks
  pub few : length chunks < c.minimum

-- why chunks are refused before anything is decoded: the first cause
abbrev pub IsChunkRefusal : {D : Type 0} → (c : Counts) (root : D) (chunks : List (Checked D))
    → ReedSolomonError → Type 0
IsChunkRefusal c root chunks (TooManyTotalShards n) = (n ≡ total_of c) × (65535 < total_of c)
IsChunkRefusal c root chunks NotEnoughChunks =
    (total_of c ≤ 65535) × ((length chunks ≡ 0) ⊎ AreTooFew c root chunks)
IsChunkRefusal c root chunks (ReedSolomon (InvalidShardSize n)) =
    (total_of c ≤ 65535) × (0 < length chunks) × (n ≡ width_of chunks)
    × (IsWidth (total_of c) (width_of chunks) → ⊥)
IsChunkRefusal c root chunks e =
    (total_of c ≤ 65535) × IsWidth (total_of c) (width_of chunks)
    × IsFirstMisfit (total_of c) root (width_of chunks) chunks e

-- the originals that came, and then the recoveries
abbrev pub in_order : {D : Type 0} → (k : ℕ) → List (Checked D) → List (Checked D)
in_order k chunks =
    filter (λ c. nat_lt c.index k) chunks ++ filter (λ c. not (nat_lt c.index k)) chunks

-- how many of them are compared: all where each original came, else the first k, which are used
abbrev pub compared : {D : Type 0} → (k : ℕ) → List (Checked D) → ℕ
compared k chunks = if length (filter (λ c. nat_lt c.index k) chunks) == k then length chunks else k

-- the text that these chunks are decoded to
pub record IsDecoding {D : Type 0} (hash : List ℕ → D) (content : D → List ℕ) (c : Counts)
    (root : D) (chunks : List (Checked D)) (text : List ℕ) : Type 0 where
  pub short : length text ≤ 2 ^ 32 - 1
  pub bytes : (i : ℕ) → slice_index text i < 256
  pub rows : All (λ x. x.shard ≡ row_at c.minimum text x.index)
      (take (compared c.minimum chunks) (in_order c.minimum chunks))
  pub rooted : root_of hash content (row_digests hash c.minimum c.extra text) ≡ Some root

-- a text of this root whose codeword has the first n of these rows at their indices
pub record Fits {D : Type 0} (hash : List ℕ → D) (content : D → List ℕ) (k m : ℕ) (root : D)
    (width : ℕ) (indices rows : List ℕ) (n : ℕ) (text : List ℕ) : Type 0 where
  pub short : length text ≤ 2 ^ 32 - 1
  pub bytes : (i : ℕ) → slice_index text i < 256
  pub same : (s : ℕ) → s < n → row_of rows width s ≡ row_at k text (slice_index indices s)
  pub rooted : root_of hash content (row_digests hash k m text) ≡ Some root

-- enough rows of one width at different indices, of which the first n are compared
pub record AreRecoverable (c : Counts) (width : ℕ) (indices rows : List ℕ) (n : ℕ) : Type 0 where
  pub some : 1 ≤ c.minimum
  pub total : total_of c ≤ 65535
  pub narrow : width ≤ 2 ^ 32 - 1
  pub within : n ≤ length indices
  pub used : c.minimum ≤ n
  pub long : length rows ≡ length indices * width
  pub sound : AreSound (total_of c) indices

-- why chunks are refused: the first cause
abbrev pub IsDecodeRefusal : {D : Type 0}
    → (hash : List ℕ → D) (content : D → List ℕ) (c : Counts) (root : D) (chunks : List (Checked D))
    → ReedSolomonError → Type 0
IsDecodeRefusal hash content c root chunks NoMemory = Unit {0}
IsDecodeRefusal hash content c root chunks Inconsistent =
    IsChunkRefusal c root chunks Inconsistent
    ⊎ (AreDecodable c root chunks
    × ((text : List ℕ) → IsDecoding hash content c root chunks text → ⊥))
IsDecodeRefusal hash content c root chunks e = IsChunkRefusal c root chunks e
