-- What the rules ask of the codewords, the tree and the texts below them.
use Rattle.std.specs.Prelude.{[], ℕ, ◌%◌, ◌<◌, ◌^◌, ◌∷◌, ◌≡◌, ◌≢◌, ◌≤◌, IsTrue, List, Some, length, map, slice_get}
use Rattle.std.specs.List.{AllByRecursion}
use Rattle.cw_base.specs.Counts.{Counts}
use Rattle.cw_types.specs.Block.{Block}
use Rattle.cw_types.specs.declared.commitment.Commitment.{Commitment}
use Rattle.cw_rules.specs.Rules.{Chunk, Rules, row_chunk, chunks, commit, rows_under}
use Rattle.cw_coding.specs.Totals.{total_of}

-- each number is a byte
abbrev pub AreBytes : List ℕ → Type 0
AreBytes xs = AllByRecursion (λ x. x < 256) xs

-- fewer than 2^32 bytes
abbrev pub IsText : List ℕ → Type 0
IsText text = AreBytes text × (length text < 2 ^ 32)

-- the shards of the chunks are bytes
abbrev pub AreByteChunks : List Chunk → Type 0
AreByteChunks chunks = AllByRecursion (λ c. AreBytes c.shard) chunks

-- the chunks are rows of the text's codeword under that config, at their places
abbrev pub AreRowsOf : Rules → Counts → List Chunk → List ℕ → Type 0
AreRowsOf r x chunks text =
    AllByRecursion (λ c. slice_get (rows_under r x text) c.index ≡ Some c.shard) chunks

-- no two chunks have one place
abbrev pub AreApart : List Chunk → Type 0
AreApart [] = Unit {0}
AreApart (c ∷ cs) = AllByRecursion (λ d. c.index ≢ d.index) cs × AreApart cs

-- what the codewords, the tree and the readers below must do
pub record IsCoder (r : Rules) : Type 0 where
  -- what chunks are decoded to is a text of whose codeword they are k rows
  pub sound : (x : Counts) (chunks : List Chunk) (text : List ℕ) → r.text_of x chunks ≡ Some text
      → (length chunks ≡ x.minimum) × IsText text × AreRowsOf r x chunks text
  -- k rows of a text's codeword at different places are decoded to it
  pub complete : (x : Counts) (chunks : List Chunk) (text : List ℕ) → 0 < x.minimum
      → total_of x ≤ 65535 → AreApart chunks → AreByteChunks chunks → length chunks ≡ x.minimum
      → IsText text → AreRowsOf r x chunks text → r.text_of x chunks ≡ Some text
  -- a text that is read as a block is that block's bytes
  pub reads : (text : List ℕ) (b : Block) → IsText text → r.read_block text ≡ Some b
      → r.block_bytes b ≡ text
  -- a codeword has k + m rows
  pub count : (x : Counts) (text : List ℕ) → 0 < x.minimum
      → length (rows_under r x text) ≡ total_of x
  -- each row's width is even and above zero
  pub widths : (x : Counts) (text : List ℕ) → 0 < x.minimum
      → AllByRecursion (λ row. (0 < length row) × (length row % 2 ≡ 0)) (rows_under r x text)
  -- the way up from each place leads to the root
  pub leads : (rows : List (List ℕ)) (i : ℕ) (row : List ℕ) → slice_get rows i ≡ Some row
      → IsTrue (r.leads_to (r.root (map r.hash rows)) (row_chunk r rows i row))

-- a block that is written as a text and read back, of whose codeword these are k rows, and which is
-- committed to so
pub record IsCodeword (r : Rules) (c : Commitment) (chunks : List Chunk) (b : Block) : Type 0 where
  pub enough : length chunks ≡ c.config.minimum
  pub text : IsText (r.block_bytes b)
  pub rows : AreRowsOf r c.config chunks (r.block_bytes b)
  pub back : r.read_block (r.block_bytes b) ≡ Some b
  pub committed : commit r b ≡ c
