use Rattle.std.proofs.Common.{nat_lt}
use Rattle.voter.proofs.Lineups.{fewer}
use Rattle.voter.proofs.lineup.put_at.Goals as goal

pub insert-requires : goal.insert-requires
insert-requires g c =
    fewer (λ at. nat_lt at.0 c.args.place) c.as_slice.result.now c.count_below-below.result _
    c.count_below-below.ensures c.as_slice.ensures.len
