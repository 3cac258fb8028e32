use Rattle.std.proofs.Common.{arith}
use Rattle.cw_coding.proofs.hashing.hash_others_here.Goals as goal

pub all_digests-requires-clause-all : goal.all_digests-requires-clause-all
all_digests-requires-clause-all g c κs within = λ i l.
    rw c.deref-2.ensures.value (c.in_ok-others.ensures.all i (omega (arith, l, c.requires.few)))
