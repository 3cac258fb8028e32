use Rattle.std.proofs.Common.{◌≡◌, ◌≤◌, length}
use Rattle.cw_archive.specs.Keys.{at_key, chunk_key}
use Rattle.cw_archive.proofs.IndexLemmas.{answers}
use Rattle.cw_archive.proofs.queue.ChunkQueue.count.Given as goal

-- as many as were found so far
abbrev pub invariant-loop-index : goal.invariant-loop-index
invariant-loop-index l =
    (l.count ≡ length (answers (λ i. at_key l.chunks.entries (chunk_key l.commitment i)) 0 l.index))
    × (l.count ≤ l.index)
