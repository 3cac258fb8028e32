use Rattle.std.proofs.Common.{◌≡◌, ◌++◌, drop, map}
use Rattle.cw_rules.specs.Coding.{AreByteChunks}
use Rattle.shards.specs.Enough.{checked_of}
use Rattle.cw_archive.specs.Showing.{AreChecked}
use Rattle.cw_archive.proofs.checks.checked_all.Given as goal

-- the chunks so far and those of the rest are all; the rest stand, and where they are bytes, all
-- are
abbrev pub invariant-loop-chunk : goal.invariant-loop-chunk
invariant-loop-chunk g l =
    (l.all.items
    ++ map (checked_of g.H.Hasher.digest_of l.commitment)
    (map (λ x. x.now) (drop l.chunk-index l.chunks))
    ≡ map (checked_of g.H.Hasher.digest_of l.commitment) (map (λ x. x.now) l.chunks))
    × AreChecked g.H.Hasher.digest_of l.commitment (map (λ x. x.now) (drop l.chunk-index l.chunks))
    × (AreByteChunks (map (λ x. x.now) (drop l.chunk-index l.chunks))
    → AreByteChunks (map (λ x. x.now) l.chunks))
