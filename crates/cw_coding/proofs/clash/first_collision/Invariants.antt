use Rattle.cw_coding.specs.Clash.{AreTold}
use Rattle.cw_coding.proofs.clash.first_collision.Given as goal

abbrev pub invariant-loop-p : goal.invariant-loop-p
invariant-loop-p g l = AreTold g.H.Hasher.digest_of l.p l.ours l.theirs
