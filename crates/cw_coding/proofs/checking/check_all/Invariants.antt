use Rattle.std.proofs.Common.{take}
use Rattle.cw_coding.specs.Checking.{AllCheck}
use Rattle.cw_coding.proofs.checking.check_all.Given as goal

abbrev pub invariant-loop-i : goal.invariant-loop-i
invariant-loop-i g l =
    AllCheck g.H.Hasher.digest_of g.H.Digest.Digest.content l.config l.commitment
    (take l.i l.indices) (take l.i l.shards) l.answers.items
