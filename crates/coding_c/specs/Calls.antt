-- What a caller in C is answered. A slice is the bytes at a pointer, a digest its 32 bytes.
use Rattle.std.specs.Prelude.{◌≡◌, ℕ, ◌+◌, ◌-◌, ◌*◌, ◌^◌, ◌≤◌, ◌<◌, ◌⊎◌, List, [], ◌∷◌, ◌++◌, length, map, drop, All, Some, Ok, slice_get, slice_index}
use Rattle.std.specs.List.{flat_map}
use Rattle.sha2.specs.Sha256.{sha256}
use Rattle.cw_base.specs.Counts.{Counts}
use Rattle.rs_code.specs.Indices.{AreSound}
use Rattle.cw_base.specs.declared.hash.Digest32.{Digest32}
use Rattle.cw_tree.specs.Chunks.{Piece}
use Rattle.cw_tree.specs.Formats.{chunk_bytes, chunk_at, widest, piece_of_bytes}
use Rattle.cw_tree.specs.Sizes.{IsHeight}
use Rattle.cw_tree.specs.Widths.{shard_len}
use Rattle.cw_coding.specs.Checked.{Checked}
use Rattle.cw_coding.specs.Checking.{IsUnder, IsCheckRefusal}
use Rattle.cw_coding.specs.Decoding.{IsDecoding, IsDecodeRefusal}
use Rattle.cw_coding.specs.Encoding.{IsEncoding, IsEncodable, IsEncodeRefusal, IsEncodingRoot, root_of_text}
use Rattle.cw_coding.specs.Totals.{total_of}
use Rattle.cw_coding.specs.declared.error.ReedSolomonError.{ReedSolomonError}
use Rattle.cw_coding.specs.declared.error.ReedSolomonError.TheVariants.{ReedSolomon, Inconsistent, InvalidProof, NotEnoughChunks, DuplicateIndex, InvalidDataLength, InvalidIndex, TooManyTotalShards, CommitmentMismatch, NoMemory}

-- the digest with these bytes, the bytes of a digest, and the hash
abbrev pub digest_of_bytes : List ℕ → Digest32
digest_of_bytes bytes = record { 0 = bytes }

abbrev pub content : Digest32 → List ℕ
content d = d.0

abbrev pub hash : List ℕ → Digest32
hash bytes = record { 0 = sha256 bytes }

-- the config of two numbers
abbrev pub config_of_numbers : (k m : ℕ) → Counts
config_of_numbers k m = record { minimum = k; extra = m }

-- two numbers that are no config
abbrev pub AreNoConfig : (k m : ℕ) → Type 0
AreNoConfig k m = (k ≡ 0) ⊎ (m ≡ 0)

-- the number by which C knows a refusal
abbrev pub status : ReedSolomonError → ℕ
status NoMemory = 1
status (TooManyTotalShards _) = 3
status (InvalidDataLength _) = 4
status (InvalidIndex _) = 7
status (ReedSolomon _) = 8
status InvalidProof = 9
status NotEnoughChunks = 10
status (DuplicateIndex _) = 11
status Inconsistent = 12
status CommitmentMismatch = 13

-- why a text of n bytes isn't encoded: no config, or what the scheme refuses
abbrev pub IsEncodeStatus : (k m n code : ℕ) → Type 0
IsEncodeStatus k m n code =
    ((code ≡ 2) × AreNoConfig k m)
    ⊎ ((e : ReedSolomonError) × IsEncodeRefusal (config_of_numbers k m) n e × (code ≡ status e))

-- the size of a chunk
abbrev pub size_of : Piece Digest32 → ℕ
size_of p = length (chunk_bytes content p)

-- values at the front of a buffer, whose rest stays
abbrev pub IsPut : {A : Type 0} → (values before after : List A) → Type 0
IsPut values before after = after ≡ values ++ drop (length values) before

-- what an encoding has: its root, its chunks end to end, and their sizes
pub record IsEncoded (k m : ℕ) (text root bytes sizes : List ℕ) : Type 0 where
  pub pieces : List (Piece Digest32)
  pub scheme : IsEncoding hash content (config_of_numbers k m) text (digest_of_bytes root) pieces
  pub chunks : bytes ≡ flat_map (chunk_bytes content) pieces
  pub each : sizes ≡ map size_of pieces

-- the room of a chunk of a text of n bytes: 12 bytes, its shard, and 32 for each level of the tree
abbrev pub IsChunkRoom : (c : Counts) (n size : ℕ) → Type 0
IsChunkRoom c n size =
    (levels : ℕ) × IsHeight (total_of c) levels
    × (size ≡ 12 + shard_len n c.minimum + 32 * levels)

-- the room of all chunks of a text of n bytes
abbrev pub IsRoom : (c : Counts) (n room : ℕ) → Type 0
IsRoom c n room = (size : ℕ) × IsChunkRoom c n size × (room ≡ total_of c * size)

-- a text of n bytes whose chunks have room, and places for their sizes
abbrev pub HasChunkRoom : (c : Counts) (n room places : ℕ) → Type 0
HasChunkRoom c n room places =
    (needed : ℕ) × IsRoom c n needed × (needed ≤ room) × (total_of c ≤ places)

-- a text of n bytes that is encoded, but whose chunks need so much room, or so many places for
-- their sizes, that there is less
pub record HasNoRoom (c : Counts) (n room places needed : ℕ) : Type 0 where
  pub encodable : IsEncodable c n
  pub needs : IsRoom c n needed
  pub less : (room < needed) ⊎ (places < total_of c)

-- as many bytes as each chunk of a text of at most so many bytes has, or more
abbrev pub HoldsChunks : (k m most size : ℕ) → Type 0
HoldsChunks k m most size =
    (text root bytes sizes : List ℕ) → IsEncoded k m text root bytes sizes → length text ≤ most
    → All (λ n. n ≤ size) sizes

-- as many bytes as all chunks of a text of at most so many bytes have together, or more
abbrev pub HoldsEncodings : (k m most room : ℕ) → Type 0
HoldsEncodings k m most room =
    (text root bytes sizes : List ℕ) → IsEncoded k m text root bytes sizes → length text ≤ most
    → length bytes ≤ room

-- the root of a text
abbrev pub IsRootOf : (k m : ℕ) (text root : List ℕ) → Type 0
IsRootOf k m text root =
    IsEncodingRoot hash content (config_of_numbers k m) text (digest_of_bytes root)

-- bytes that are read as this chunk, to their end, and bytes that are no chunk
abbrev pub IsChunk : (k : ℕ) (bytes : List ℕ) (p : Piece Digest32) → Type 0
IsChunk k bytes p =
    chunk_at 32 (widest k (2 ^ 32 - 1)) bytes ≡ Ok (piece_of_bytes content p, [])

abbrev pub IsNoChunk : (k : ℕ) (bytes : List ℕ) → Type 0
IsNoChunk k bytes = (p : Piece Digest32) → IsChunk k bytes p → ⊥

-- bytes that are a chunk at an index under a root
pub record StandsUnder (c : Counts) (root : List ℕ) (index : ℕ) (bytes : List ℕ) : Type 0 where
  pub piece : Piece Digest32
  pub read : IsChunk c.minimum bytes piece
  pub under : IsUnder hash content c (digest_of_bytes root) index piece

-- why a chunk isn't taken at an index under a root: what the scheme refuses
abbrev pub IsNotTaken : (c : Counts) (root : List ℕ) (index : ℕ) (p : Piece Digest32) (code : ℕ)
    → Type 0
IsNotTaken c root index p code =
    (e : ReedSolomonError) × IsCheckRefusal hash content c (digest_of_bytes root) index p e
    × (code ≡ status e)

-- why bytes aren't taken for the chunk at its index under a root: no memory, no chunk, or what the
-- scheme refuses. `at` gives the index for the chunk
abbrev pub IsCheckStatus : (c : Counts) (root : List ℕ) (at : Piece Digest32 → ℕ) (bytes : List ℕ)
    (code : ℕ)
    → Type 0
IsCheckStatus c root at bytes code =
    (code ≡ 1) ⊎ ((code ≡ 6) × IsNoChunk c.minimum bytes)
    ⊎ ((p : Piece Digest32) × IsChunk c.minimum bytes p × IsNotTaken c root (at p) p code)

-- the chunk that bytes are, checked under a root at its own index
pub record IsTaken (c : Counts) (root bytes : List ℕ) (x : Checked Digest32) : Type 0 where
  pub piece : Piece Digest32
  pub read : IsChunk c.minimum bytes piece
  pub under : IsUnder hash content c (digest_of_bytes root) piece.index piece
  pub is : x
      ≡ record {
        root = digest_of_bytes root;
        shard = piece.shard;
        index = piece.index;
        digest = hash piece.shard;
      }

-- the chunks that these bytes are, in order
abbrev pub AreTaken : (c : Counts) (root : List ℕ) → List (List ℕ) → List (Checked Digest32)
    → Type 0
AreTaken c root [] [] = Unit {0}
AreTaken c root (b ∷ bs) (x ∷ xs) = IsTaken c root b x × AreTaken c root bs xs
AreTaken c root _ _ = ⊥

-- the first bytes among these that aren't taken, and why
pub record IsFirstNotTaken (c : Counts) (root : List ℕ) (all : List (List ℕ)) (code : ℕ) : Type 0
  where
    pub before : List (List ℕ)
    pub bytes : List ℕ
    pub after : List (List ℕ)
    pub are : all ≡ before ++ bytes ∷ after
    pub taken : List (Checked Digest32)
    pub each : AreTaken c root before taken
    pub cause : IsCheckStatus c root (λ p. p.index) bytes code

-- why bytes aren't decoded: no memory, the first that aren't taken, or what the scheme refuses in
-- all of them
abbrev pub IsDecodeStatus : (c : Counts) (root : List ℕ) (all : List (List ℕ)) (code : ℕ) → Type 0
IsDecodeStatus c root all code =
    (code ≡ 1) ⊎ IsFirstNotTaken c root all code
    ⊎ ((taken : List (Checked Digest32)) × AreTaken c root all taken × (e : ReedSolomonError)
    × IsDecodeRefusal hash content c (digest_of_bytes root) taken e × (code ≡ status e))

-- a text whose encoding has this root
abbrev pub HasRoot : (c : Counts) (root text : List ℕ) → Type 0
HasRoot c root text = root_of_text hash content c text ≡ Some (digest_of_bytes root)

-- the text that these bytes are decoded to
pub record IsDecoded (c : Counts) (root : List ℕ) (all : List (List ℕ)) (text : List ℕ)
    : Type 0 where
  pub taken : List (Checked Digest32)
  pub each : AreTaken c root all taken
  pub scheme : IsDecoding hash content c (digest_of_bytes root) taken text

-- at least k chunks of a text's encoding, of different indices, in any order
pub record AreChunksOfText (k m : ℕ) (root text : List ℕ) (all : List (List ℕ)) : Type 0 where
  pub some : 1 ≤ k
  pub more : 1 ≤ m
  pub bytes : (i : ℕ) → slice_index text i < 256
  pub pieces : List (Piece Digest32)
  pub scheme : IsEncoding hash content (config_of_numbers k m) text (digest_of_bytes root) pieces
  pub chosen : List (Piece Digest32)
  pub among : All (λ p. (i : ℕ) × (slice_get pieces i ≡ Some p)) chosen
  pub different : AreSound (k + m) (map (λ p. p.index) chosen)
  pub enough : k ≤ length chosen
  pub are : all ≡ map (chunk_bytes content) chosen

-- the fewest bytes, and the most, that a text has whose k shards have so many bytes each
abbrev pub fewest_bytes : (k width : ℕ) → ℕ
fewest_bytes k width = k * (width - 2) - 3

abbrev pub most_bytes : (k width : ℕ) → ℕ
most_bytes k width = k * width - 4

-- room for fewer bytes than any text has whose shards are as wide as that of the first of these
-- chunks, which stands under the root
pub record HasNoTextRoom (c : Counts) (root : List ℕ) (all : List (List ℕ)) (room needed : ℕ)
    : Type 0 where
  pub bytes : List ℕ
  pub first : slice_get all 0 ≡ Some bytes
  pub chunk : Checked Digest32
  pub taken : IsTaken c root bytes chunk
  pub less : room < fewest_bytes c.minimum (length chunk.shard)
  pub needs : needed ≡ most_bytes c.minimum (length chunk.shard)
