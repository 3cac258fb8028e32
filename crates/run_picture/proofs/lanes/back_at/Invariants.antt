use Rattle.std.proofs.Common.{◌≡◌, ◌+◌, drop}
use Rattle.run_picture.specs.Lanes as spec
use Rattle.run_picture.proofs.lanes.back_at.Given as goal

abbrev pub invariant-loop-index : goal.invariant-loop-index
invariant-loop-index l =
    spec.back_at l.member (l.row + l.index) (drop l.index l.steps)
    ≡ spec.back_at l.member l.row l.steps
