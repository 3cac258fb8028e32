use Rattle.hailstorm.proofs.Between.{fewer_turns}
use Rattle.hailstorm.proofs.lanes.end_of.Goals as goal

pub lanes-smaller-in-Some : goal.lanes-smaller-in-Some
lanes-smaller-in-Some g c =
    fewer_turns g.H.Hasher.digest_of c.lanes.turning c.turn.new.self c.in-Some.lane c.turn.result.0
    c.turn.ensures.lawful c.in-Some.ensures.some.0 c.in-Some.ensures.some.1
