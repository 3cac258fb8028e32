use Rattle.hail_world.proofs.Closing.{ClosedSo}
use Rattle.hail_world.proofs.world.close_all.Given as goal

abbrev pub invariant-loop-place : goal.invariant-loop-place
invariant-loop-place g l = ClosedSo l.yielded l.disks l.nodes
