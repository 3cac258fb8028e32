use Rattle.std.proofs.Common.{◌≡◌, map, take}
use Rattle.cw_base.specs.Rows.{row_of}
use Rattle.cw_coding.proofs.hashing.hash_at_here.Given as goal

abbrev pub invariant-loop-i : goal.invariant-loop-i
invariant-loop-i g l =
    l.digests.items
    ≡ map (λ i. g.H.Hasher.digest_of (row_of l.rows l.width i)) (take l.i-index l.indices)
