-- The real bytes of a block tell it.
use Rattle.std.proofs.Common.{◌≡◌, ℕ, ◌≤◌, Bool, List, length, map, Option, Some, None, unwrap_or, refl, sym, ap, ◌∙◌}
use Rattle.std.proofs.lemmas.Option.{same_Some}
use Rattle.cw_base.specs.declared.hash.Digest32.{Digest32}
use Rattle.cw_base.specs.Counts.{Counts}
use Rattle.cw_tree.specs.Tree.{leaves_from, root_of, rooted, rooted_some, top_within}
use Rattle.cw_types.specs.Block.{Block}
use Rattle.cw_types.specs.Commit.{digest_bytes, empty_digest}
use Rattle.cw_types.specs.Encoding.{block_bytes}
use Rattle.cw_types.specs.Epochs.{Epochs}
use Rattle.cw_types.specs.Reading.{block_in}
use Rattle.cw_types.specs.Values.{IsBlock, IsDigest}
use Rattle.cw_types.proofs.FormatLaws.{block_again, block_found}
use Rattle.cw_rules.specs.Rules.{Chunk, block_of}
use Rattle.cw_rules.specs.Telling.{TellsBlocks}
use Rattle.cw_rules.specs.declared.travel.Travel.{Travel}
use Rattle.cw_rules.proofs.Lists.{and_then_some}
use Rattle.cw_rules.proofs.Written.{bytes_by_place}
use Rattle.cw_rules_coded.specs.Coded.{decoded, root_over, ruled}
use Rattle.cw_rules_coded.proofs.RealCoder.{decoded_sound}

-- two blocks that can be written are one where their bytes are
pub told_apart : (a b : Block) → IsBlock a → IsBlock b → block_bytes a ≡ block_bytes b → a ≡ b
told_apart a b one other same =
    same_Some a b (sym (block_again a one) ∙ (ap block_in same ∙ block_again b other))

-- what chunks show can be written
shown_written : (travel : Travel) (hash : List ℕ → Digest32) (epochs : Epochs) (backlog : ℕ)
    (accepts : Block → Block → Bool) (x : Counts) (chunks : List Chunk) (b : Block)
    → block_of (ruled travel hash epochs backlog accepts) x chunks ≡ Some b → IsBlock b
shown_written travel hash epochs backlog accepts x chunks b h =
    let (text, is, read) = and_then_some block_in (decoded x chunks) b h in
    let (enough, is_text, rows) = decoded_sound x chunks text is in
    (block_found text b (bytes_by_place text is_text.0) read).1

-- a root is a digest
root_sized : (hash : List ℕ → Digest32) → ((bytes : List ℕ) → IsDigest (hash bytes))
    → (ds : List Digest32) → IsDigest (root_over hash ds)
unfolding root_of rooted
root_sized hash sized ds =
    go (top_within hash digest_bytes (length ds) (leaves_from hash digest_bytes 0 ds))
  where
    go : (o : Option Digest32)
        → IsDigest (unwrap_or (rooted_some hash digest_bytes (length ds) o) empty_digest)
    go None = refl
    go (Some top) = sized _

pub tells_blocks : (travel : Travel) (hash : List ℕ → Digest32) (epochs : Epochs) (backlog : ℕ)
    (accepts : Block → Block → Bool)
    → ((bytes : List ℕ) → IsDigest (hash bytes)) → epochs.total ≤ 65535
    → TellsBlocks (ruled travel hash epochs backlog accepts)
tells_blocks travel hash epochs backlog accepts sized few = record {
  blocks = told_apart;
  shown = shown_written travel hash epochs backlog accepts;
  digests = sized;
  roots = λ rows. root_sized hash sized (map hash rows);
  members = few;
}
