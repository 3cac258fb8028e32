use Rattle.std.proofs.Common.{◌≡◌, ◌+◌, ◌++◌, drop, length, map, not}
use Rattle.std.specs.Prelude.{string_bytes}
use Rattle.run_picture.specs.Lanes as spec
use Rattle.run_picture.proofs.lanes.put_gaps.Given as goal

abbrev pub invariant-loop-index : goal.invariant-loop-index
invariant-loop-index l =
    string_bytes l.out
    ++ spec.gaps_from (length l.faulty) l.flights (l.index + 1) l.live.items (drop l.index l.steps)
    ≡ string_bytes l.fn.out
    ++ spec.gaps_from (length l.faulty) l.flights 1 (map not l.faulty) l.steps
