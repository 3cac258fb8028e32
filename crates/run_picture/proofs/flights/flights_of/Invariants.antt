use Rattle.std.proofs.Common.{◌≡◌, ◌+◌, ◌++◌, drop}
use Rattle.run_picture.specs.Steps as spec
use Rattle.run_picture.proofs.flights.flights_of.Given as goal

abbrev pub invariant-loop-index : goal.invariant-loop-index
invariant-loop-index l =
    l.flights.items ++ spec.flights_from (l.index + 1) (drop l.index l.steps)
    ≡ spec.flights_from 1 l.steps
