use Rattle.std.proofs.Common.{◌≡◌, ◌++◌, drop, map}
use Rattle.shards.specs.Index.{chunks_at}
use Rattle.shards.proofs.block.BlockChunks.in_order.Given as goal

-- the chunks so far and those of the rest are all
abbrev pub invariant-loop-index : goal.invariant-loop-index
invariant-loop-index l =
    map (λ x. x.now) l.chunks.items
    ++ chunks_at l.self-inside.chunks.entries (drop l.index-index l.self-inside.came.items)
    ≡ chunks_at l.self-inside.chunks.entries l.self-inside.came.items
