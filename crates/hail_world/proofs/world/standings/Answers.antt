use Rattle.hail_world.proofs.Stands.{stand_next, stand_all}
use Rattle.hail_world.proofs.world.standings.Goals as goal

pub loop-index-preserved : goal.loop-index-preserved
loop-index-preserved g c =
    stand_next c.loop-index.index c.args.places.now c.index-places-index.result
    c.index-places-index.result c.loop-index.acked c.push_some.new.acked c.standing_of.result
    c.loop-index.invariant c.loop-index-test.true c.index-places-index.is
    c.standing_of.ensures c.in_ok-push_some.ensures

pub returns : goal.returns
returns g c =
    λ r w sound members. stand_all c.loop-index.index c.args.places.now c.loop-index.acked
    c.loop-index.invariant c.loop-index-test.false r w.members sound members
