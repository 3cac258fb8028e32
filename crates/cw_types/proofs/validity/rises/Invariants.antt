use Rattle.std.proofs.Common.{◌≡◌, drop}
use Rattle.cw_types.specs.Epochs.{rises_from}
use Rattle.cw_types.proofs.validity.rises.Given as goal

abbrev pub invariant-loop-number : goal.invariant-loop-number
invariant-loop-number l =
    rises_from l.low l.numbers ≡ rises_from l.least (drop l.number-index l.numbers)
