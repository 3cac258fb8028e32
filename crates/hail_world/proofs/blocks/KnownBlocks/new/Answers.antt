use Rattle.hail_world.proofs.Colliding.{known_genesis}
use Rattle.hail_world.proofs.blocks.KnownBlocks.new.Goals as goal

pub returns : goal.returns
returns g c = λ r by.
    known_genesis g.H.Hasher.digest_of r c.new-by_digest.result c.insert.new.self
    c.genesis-first.result c.in_ok-digest.digest by c.genesis-first.ensures c.in_ok-digest.ensures
    c.new-by_digest.ensures.empty c.in_ok-insert.ensures.updates
