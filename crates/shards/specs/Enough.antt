-- Chunks that are enough to show a block.
use Rattle.std.specs.Prelude.{◌≡◌, [], ℕ, ◌≤◌, Bool, IsTrue, List, None, Some, length}
use Rattle.std.specs.List.{AllByRecursion}
use Rattle.cw_base.specs.declared.hash.Digest32.{Digest32}
use Rattle.cw_coding.specs.Checked.{Checked}
use Rattle.cw_coding.specs.Layout.{row_digests}
use Rattle.cw_tree.specs.Tree.{root_of}
use Rattle.cw_types.specs.Epochs.{Epochs}
use Rattle.cw_types.specs.declared.commitment.Commitment.{Commitment}
use Rattle.cw_rules.specs.Coding.{AreApart}
use Rattle.cw_rules.specs.Rules.{Chunk, is_under}
use Rattle.cw_coding.specs.Totals.{total_of}
use Rattle.cw_rules_coded.specs.Coded.{decoded, digest_bytes}
use Rattle.shards.specs.Kept.{chunk_rules}

-- a chunk that was checked under a commitment
abbrev pub checked_of : (List ℕ → Digest32) → Commitment → Chunk → Checked Digest32
checked_of hash c x = record {
  root = c.root;
  shard = x.shard;
  index = x.index;
  digest = hash x.shard;
}

-- no committees at all
abbrev pub no_committees : Epochs
no_committees = record { total = 0; span = None; lists = [] }

-- the chunk stands under the commitment, whatever the committees
abbrev pub is_under_root : (List ℕ → Digest32) → Commitment → Chunk → Bool
is_under_root hash c x = is_under (chunk_rules hash no_committees) c x

-- each chunk stands under the commitment
abbrev pub AreUnder : (List ℕ → Digest32) → Commitment → List Chunk → Type 0
AreUnder hash c chunks = AllByRecursion (λ x. IsTrue (is_under_root hash c x)) chunks

-- as many chunks as show a block, which stand under the commitment at different places
pub record AreEnough (hash : List ℕ → Digest32) (c : Commitment)
    (chunks : List Chunk) : Type 0 where
  pub some : 2 ≤ c.config.minimum
  pub few : total_of c.config ≤ 65535
  pub enough : length chunks ≡ c.config.minimum
  pub under : AreUnder hash c chunks
  pub apart : AreApart chunks

-- the root of the text's codeword is that of the commitment
abbrev pub IsRooted : (List ℕ → Digest32) → Commitment → List ℕ → Type 0
IsRooted hash c text =
    root_of hash digest_bytes (row_digests hash c.config.minimum c.config.extra text) ≡ Some c.root

-- the chunks are rows of the text's codeword, and its root is that of the commitment
pub record AreOfText (hash : List ℕ → Digest32) (c : Commitment) (chunks : List Chunk)
    (text : List ℕ) : Type 0 where
  pub decodes : decoded c.config chunks ≡ Some text
  pub rooted : IsRooted hash c text
