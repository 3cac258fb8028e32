use Rattle.std.proofs.Common.{◌≡◌}
use Rattle.hailstorm.proofs.Between.{turns_left}
use Rattle.hailstorm.proofs.lanes.end_of.Given as goal

-- it is the cluster of the same script
abbrev pub invariant-lanes : goal.invariant-lanes
invariant-lanes g l = l.turning.laned ≡ l.fn.turning.laned

abbrev pub decreases-lanes : goal.decreases-lanes
decreases-lanes g l = turns_left l.turning
