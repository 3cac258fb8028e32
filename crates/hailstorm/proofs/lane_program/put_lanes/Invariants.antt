use Rattle.std.proofs.Common.{◌≡◌, ◌++◌, take}
use Rattle.std.specs.Prelude.{string_bytes}
use Rattle.std.specs.List.{flat_map}
use Rattle.hailstorm.specs.LanesProgram as spec
use Rattle.hailstorm.proofs.lane_program.put_lanes.Given as goal

-- the lanes so far are written
abbrev pub invariant-loop-lane : goal.invariant-loop-lane
invariant-loop-lane l =
    string_bytes l.out
    ≡ string_bytes l.fn.out ++ flat_map spec.lane_word (take l.lane-index l.lanes)
