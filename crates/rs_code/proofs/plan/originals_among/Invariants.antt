use Rattle.std.proofs.Common.{◌≤◌}
use Rattle.rs_code.proofs.plan.originals_among.Given as goal

abbrev pub invariant-loop-point : goal.invariant-loop-point
invariant-loop-point l = l.count ≤ l.point-index
