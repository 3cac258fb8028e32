use Rattle.std.proofs.Common.{◌≡◌, length}
use Rattle.rs_code.specs.Columns.{AreScales}
use Rattle.rs_code.proofs.subspaces.scales.Given as goal

abbrev pub invariant-loop-t : goal.invariant-loop-t
invariant-loop-t l = record {
  count : length l.scales ≡ 15;
  each : AreScales l.t l.scales;
}
