use Rattle.std.proofs.Common.{◌≡◌}
use Rattle.cw_base.specs.Rows.{listed, row_of}
use Rattle.cw_coding.proofs.hashing.hash_each.Given as goal

abbrev pub invariant-loop-i : goal.invariant-loop-i
invariant-loop-i g l =
    l.digests.items ≡ listed l.i (λ i. g.H.Hasher.digest_of (row_of l.rows l.width i))
