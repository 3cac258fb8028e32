use Rattle.hail_world.proofs.Seating.{steps, stops}
use Rattle.hail_world.proofs.live_node.step.Goals as goal

pub returns-clause-ok : goal.returns-clause-ok
returns-clause-ok g c =
    steps g.H.Hasher.digest_of (g.V.Verifier.signs c.args.verifier.now) c.args.event.now
    c.args.node.now c.step.new.self c.step.result c.step.ensures.step c.step.ensures.same
    c.step.ensures.at_work (c.step.ensures.disk c.requires.live)

pub returns-clause-cut : goal.returns-clause-cut
returns-clause-cut g c is =
    stops g.H.Hasher.digest_of (g.V.Verifier.signs c.args.verifier.now) c.args.event.now
    c.args.node.now c.step.new.self c.step.result (c.step.ensures.disk c.requires.live) is
