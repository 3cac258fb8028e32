use Rattle.hailstorm.proofs.Shared.{shared_laned}
use Rattle.hailstorm.proofs.lanes.share_by.Goals as goal

pub returns-in-Ok : goal.returns-in-Ok
returns-in-Ok g c =
    shared_laned g.H.Hasher.digest_of _ c.args.turning c.in-Ok.turning _ c.requires.opening
    c.in-Ok.ensures.replay
