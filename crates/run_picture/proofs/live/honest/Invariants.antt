use Rattle.std.proofs.Common.{◌≡◌, map, not, take}
use Rattle.run_picture.proofs.live.honest.Given as goal

abbrev pub invariant-loop-mark : goal.invariant-loop-mark
invariant-loop-mark l =
    l.live.items ≡ map not (take l.mark-index l.faulty)
