use Rattle.std.proofs.Common.{◌≡◌}
use Rattle.cw_types.specs.Epochs.{single}
use Rattle.cw_tests.proofs.voter_tests.told_of.Given as goal

abbrev pub invariant-loop-number : goal.invariant-loop-number
invariant-loop-number l = l.tally.epochs ≡ single 4
