use Rattle.std.proofs.Common.{◌≡◌, refl}
use Rattle.hail_world.specs.Places.{script_rules}
use Rattle.hail_world.proofs.Clusters.{opens}
use Rattle.hail_world.proofs.cluster.Cluster.open.Goals as goal

pub invariant_of-result : goal.invariant_of-result
invariant_of-result g c =
    let hash = g.H.Hasher.digest_of in
    opens hash g.W.Way.travel c.args.script c.in_ok-opening.opening c.new-3.result.items
    c.new-2.result c.in_ok-opening.places.items c.in_ok-known.known c.in_ok-faulty.faulty.items
    c.requires.way c.in_ok-opening.ensures.opening c.new-3.ensures.items c.new-2.ensures
    c.in_ok-opening.ensures.members c.in_ok-opening.ensures.sound c.in_ok-opening.ensures.count
    (c.in_ok-known.ensures (script_rules hash c.args.script)
    (record { hashes = refl; blocks = refl; contexts = refl }))
    c.in_ok-faulty.ensures
