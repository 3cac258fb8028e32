use Rattle.std.proofs.Common.{◌≡◌, take}
use Rattle.hail_script.specs.Lanes.{Laned, rows}
use Rattle.hailstorm.proofs.turning.play_before.Given as goal

-- the lines so far had their turns
abbrev pub invariant-loop-at : goal.invariant-loop-at
invariant-loop-at g l =
    (x : Laned) → x.script ≡ l.fn.cluster.script → x.numbers ≡ l.numbers
    → l.cluster ≡ record l.fn.cluster { rows = take l.at (rows x) }
