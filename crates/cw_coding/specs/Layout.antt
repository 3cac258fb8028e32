-- The layout of a text, and the rows of its codeword.
use Rattle.std.specs.Prelude.{ℕ, ◌*◌, ◌++◌, ◌+◌, ◌-◌, List, drop, length, replicate, take}
use Rattle.cw_base.specs.Bytes.{be32}
use Rattle.cw_base.specs.Rows.{listed}
use Rattle.rs_code.specs.Rows.{code_row}
use Rattle.cw_tree.specs.Widths.{shard_len}

-- the text's length in four bytes, the text, and zeros up to k shards of one width
unfoldable pub layout : (k : ℕ) (text : List ℕ) → List ℕ
layout k text =
    be32 (length text) ++ text ++ replicate (k * shard_len (length text) k - (length text + 4)) 0

-- so many bytes behind the length that a layout begins with
abbrev pub counted_text : (laid : List ℕ) (count : ℕ) → List ℕ
counted_text laid count = take count (drop 4 laid)

-- row i of the text's codeword, whose first k rows joined are its layout
unfoldable pub row_at : (k : ℕ) (text : List ℕ) (i : ℕ) → List ℕ
row_at k text i = code_row k (layout k text) (shard_len (length text) k) i

-- the digests of the k + m rows
abbrev pub row_digests : {D : Type 0} → (List ℕ → D) → (k m : ℕ) (text : List ℕ) → List D
row_digests hash k m text = listed (k + m) (λ i. hash (row_at k text i))
