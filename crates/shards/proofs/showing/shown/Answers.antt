use Rattle.std.proofs.Common.{map, arith, sym}
use Rattle.shards.proofs.Shown.{shows_none}
use Rattle.shards.proofs.showing.shown.Goals as goal

pub returns-in-None : goal.returns-in-None
returns-in-None g c =
    let hash = g.H.Hasher.digest_of in
    let two = c.requires.some in
    sym
    (shows_none hash c.args.committees.now c.args.commitment.now
    (map (λ x. x.now) c.args.chunks.now) (c.coder_laws.ensures hash c.args.committees.now)
    (omega arith) (rw c.in-None.is at c.in_ok-text.ensures.none))
