use Rattle.hail_world.proofs.Stands.{StandSo}
use Rattle.hail_world.proofs.world.standings.Given as goal

abbrev pub invariant-loop-index : goal.invariant-loop-index
invariant-loop-index g l = StandSo l.index l.places l.acked
