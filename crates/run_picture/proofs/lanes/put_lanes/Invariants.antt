use Rattle.std.proofs.Common.{◌≡◌, ◌++◌, drop, length}
use Rattle.std.specs.Prelude.{string_bytes}
use Rattle.run_picture.specs.Lanes as spec
use Rattle.run_picture.proofs.lanes.put_lanes.Given as goal

abbrev pub invariant-loop-member : goal.invariant-loop-member
invariant-loop-member l =
    string_bytes l.out
    ++ spec.lanes_from (length l.faulty) l.y l.member (drop l.member l.faulty)
    ≡ string_bytes l.fn.out ++ spec.lanes_from (length l.faulty) l.y 0 l.faulty
