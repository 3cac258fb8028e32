use Rattle.std.proofs.Common.{◌≡◌, ◌++◌, map, take}
use Rattle.run_picture.specs.Steps as spec
use Rattle.run_picture.proofs.flights.put_sent.Given as goal

abbrev pub invariant-loop-said : goal.invariant-loop-said
invariant-loop-said l =
    l.flights.items
    ≡ l.fn.flights.items ++ map (spec.flight_of l.row l.step) (take l.said-index l.step.sent)
