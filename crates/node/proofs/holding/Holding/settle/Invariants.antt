use Rattle.node.proofs.Settling.{IsSettling, left}
use Rattle.node.proofs.holding.Holding.settle.Given as goal

abbrev pub invariant-settling : goal.invariant-settling
invariant-settling g l = IsSettling g.H.Hasher.digest_of g.A.Application.accepts l.fn.self l.self

abbrev pub decreases-settling : goal.decreases-settling
decreases-settling g l = left l.fn.self l.self
