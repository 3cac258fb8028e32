use Rattle.hail_world.proofs.Seating.{started}
use Rattle.hail_world.proofs.live_node.start.Goals as goal

pub returns-in-Ok : goal.returns-in-Ok
returns-in-Ok g c frames held =
    started g.W.Way.travel g.H.Hasher.digest_of c.args.id c.args.committees c.args.backlog _ frames
    c.args.disk
    c.in-Ok.node c.in-Ok.out c.in-Ok.ensures.way c.in-Ok.ensures.node c.in-Ok.ensures.start
    c.in-Ok.ensures.at_work
    c.in-Ok.ensures.disk held
