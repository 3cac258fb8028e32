-- What a text is encoded to, and why it is refused.
use Rattle.std.specs.Prelude.{◌≡◌, ℕ, ◌-◌, ◌*◌, ◌^◌, ◌<◌, ◌≤◌, List, length, Option, Some}
use Rattle.cw_base.specs.Counts.{Counts}
use Rattle.cw_tree.specs.Chunks.{Piece}
use Rattle.cw_base.specs.Rows.{listed}
use Rattle.cw_tree.specs.Widths.{shard_len}
use Rattle.cw_coding.specs.Layout.{row_at, row_digests}
use Rattle.cw_tree.specs.Tree.{root_of, path_of}
use Rattle.cw_coding.specs.Totals.{total_of}
use Rattle.cw_coding.specs.declared.error.ReedSolomonError.{ReedSolomonError}
use Rattle.cw_coding.specs.declared.error.ReedSolomonError.TheVariants.{InvalidDataLength, TooManyTotalShards, NoMemory}

-- a text of n bytes whose shards have room
pub record IsCodable (c : Counts) (n : ℕ) : Type 0 where
  pub short : n ≤ 2 ^ 32 - 1
  pub narrow : shard_len n c.minimum ≤ 2 ^ 32 - 1
  pub room : total_of c * shard_len n c.minimum ≤ 2 ^ 63 - 1

-- data of n bytes that is encoded
pub record IsEncodable (c : Counts) (n : ℕ) : Type 0 where
  pub total : total_of c ≤ 65535
  pub codable : IsCodable c n

-- the root of a text: that of the digests of its codeword's rows
abbrev pub root_of_text : {D : Type 0}
    → (hash : List ℕ → D) (content : D → List ℕ) (c : Counts) (text : List ℕ) → Option D
root_of_text hash content c text = root_of hash content (row_digests hash c.minimum c.extra text)

-- why a text is refused: the first cause
abbrev pub IsEncodeRefusal : (c : Counts) (n : ℕ) → ReedSolomonError → Type 0
IsEncodeRefusal c n (TooManyTotalShards t) = (t ≡ total_of c) × (65535 < total_of c)
IsEncodeRefusal c n (InvalidDataLength l) = (total_of c ≤ 65535) × (l ≡ n) × (IsCodable c n → ⊥)
IsEncodeRefusal c n NoMemory = Unit {0}
IsEncodeRefusal c n _ = ⊥

-- the chunk of row i of a text
abbrev pub piece_of : {D : Type 0}
    → (hash : List ℕ → D) (content : D → List ℕ) (c : Counts) (text : List ℕ) (i : ℕ) → Piece D
piece_of hash content c text i =
    record {
      shard = row_at c.minimum text i;
      index = i;
      leaf_count = total_of c;
      siblings = path_of hash content i (row_digests hash c.minimum c.extra text);
    }

-- what a text is encoded to
pub record IsEncoding {D : Type 0} (hash : List ℕ → D) (content : D → List ℕ) (c : Counts)
    (text : List ℕ) (root : D) (pieces : List (Piece D)) : Type 0 where
  pub total : total_of c ≤ 65535
  pub codable : IsCodable c (length text)
  pub rooted : root_of hash content (row_digests hash c.minimum c.extra text) ≡ Some root
  pub each : pieces ≡ listed (total_of c) (piece_of hash content c text)

-- the root of what a text is encoded to
abbrev pub IsEncodingRoot : {D : Type 0}
    → (hash : List ℕ → D) (content : D → List ℕ) (c : Counts) (text : List ℕ) → D → Type 0
IsEncodingRoot {D = D} hash content c text root =
    (pieces : List (Piece D)) × IsEncoding hash content c text root pieces
