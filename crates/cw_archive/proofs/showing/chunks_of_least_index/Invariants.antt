use Rattle.std.proofs.Common.{◌≡◌, ◌≤◌, length, map}
use Rattle.cw_archive.specs.Archived.{kept_chunk_at}
use Rattle.cw_archive.proofs.IndexLemmas.{answers}
use Rattle.cw_archive.proofs.showing.chunks_of_least_index.Given as goal

-- the chunks of the indices so far, no more than are asked for
abbrev pub invariant-loop-index : goal.invariant-loop-index
invariant-loop-index l =
    (map (λ chunk. chunk.now) l.chunks.items
    ≡ answers (kept_chunk_at l.commitment l.kept) 0 l.index)
    × (length l.chunks.items ≤ l.minimum)
