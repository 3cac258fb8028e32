use Rattle.std.proofs.Common.{◌≡◌, ◌+◌, ◌++◌, drop, map, not}
use Rattle.std.specs.Prelude.{string_bytes}
use Rattle.run_picture.specs.Arrows as spec
use Rattle.run_picture.proofs.arrows.put_arrows.Given as goal

abbrev pub invariant-loop-index : goal.invariant-loop-index
invariant-loop-index l =
    string_bytes l.out
    ++ spec.arrows_from l.faulty l.flights (l.index + 1) l.live.items (drop l.index l.steps)
    ≡ string_bytes l.fn.out
    ++ spec.arrows_from l.faulty l.flights 1 (map not l.faulty) l.steps
