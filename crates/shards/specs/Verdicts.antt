-- What is answered to a chunk, and what it leaves.
use Rattle.std.specs.Prelude.{◌+◌, ◌==◌, List, Option, None, Some, if◌then◌else◌, length}
use Rattle.cw_types.specs.Block.{Block}
use Rattle.cw_types.specs.declared.commitment.Commitment.{Commitment}
use Rattle.cw_rules.specs.Accepted.{is_chunk_of}
use Rattle.cw_rules.specs.Held.{shown}
use Rattle.cw_rules.specs.Rules.{Chunk, Rules}
use Rattle.shards.specs.Kept.{Gathered, chunks_of, is_kept_chunk, kept_came, with_chunk}
use Rattle.shards.specs.declared.pieces.KeptChunk.{KeptChunk}
use Rattle.shards.specs.declared.verdict.Verdict.{Verdict}
use Rattle.shards.specs.declared.verdict.Verdict.TheVariants.{Foreign, Garbage, Held, Kept, Known}

-- the block as which a commitment is shown, or none
abbrev pub of_shown : Option Block → Verdict
of_shown (Some b) = Held b
of_shown None = Garbage

-- the verdict on a chunk that the rules take: as the k-th of its commitment it shows the block, or
-- that there is none
abbrev pub kept_verdict : Rules → List KeptChunk → Commitment → Chunk → Verdict
kept_verdict r kept c x =
    if length (chunks_of c kept) + 1 == c.config.minimum
    then of_shown (shown r (kept_came (with_chunk kept c x)) c)
    else Kept

-- the verdict on a chunk: the first that holds
abbrev pub verdict : Rules → List KeptChunk → Commitment → Chunk → Verdict
verdict r kept c x =
    if is_kept_chunk kept c x then Known
    else if is_chunk_of r c x then kept_verdict r kept c x else Foreign

-- what is kept after a chunk: with it, where it wasn't known and the rules take it
abbrev pub kept_after : Rules → List KeptChunk → Commitment → Chunk → List KeptChunk
kept_after r kept c x =
    if is_kept_chunk kept c x then kept
    else if is_chunk_of r c x then with_chunk kept c x else kept

-- the same, with the committees
abbrev pub gathered_after : Rules → Gathered → Commitment → Chunk → Gathered
gathered_after r t c x = record { epochs = t.epochs; kept = kept_after r t.kept c x }
