use Rattle.marshal.proofs.Raising.{Raising}
use Rattle.marshal.proofs.reach.raise_from.Given as goal

abbrev pub invariant-loop-place : goal.invariant-loop-place
invariant-loop-place l = Raising l.fn.reach.items l.from l.height l.reach.items l.place
