use Rattle.std.proofs.Common.{◌≡◌}
use Rattle.hail_world.proofs.Clusters.{seen_end}
use Rattle.hail_world.proofs.cluster.Cluster.end.Goals as goal

pub returns-in-Ok-clause-report : goal.returns-in-Ok-clause-report
returns-in-Ok-clause-report g c =
    let i = c.self.inside in
    seen_end g.H.Hasher.digest_of i.script i.turns.items i.over c.args.self c.self.view_is
    g.W.Way.travel i.opening i.pool i.places.items i.known i.faulty.items c.in-Ok.report
    c.self.invariant c.requires (rw c.into_entries.ensures at c.in-Ok.ensures)
