use Rattle.std.proofs.Common.{◌≡◌}
use Rattle.rs_code.specs.Transform.{vanishing}
use Rattle.rs_code.proofs.subspaces.vanishing_at.Given as goal

abbrev pub invariant-loop-step : goal.invariant-loop-step
invariant-loop-step l = l.y ≡ vanishing l.step l.x
