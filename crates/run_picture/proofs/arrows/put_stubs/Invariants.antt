use Rattle.std.proofs.Common.{◌≡◌, ◌++◌, drop}
use Rattle.std.specs.Prelude.{string_bytes}
use Rattle.run_picture.specs.Arrows as spec
use Rattle.run_picture.proofs.arrows.put_stubs.Given as goal

abbrev pub invariant-loop-number : goal.invariant-loop-number
invariant-loop-number l =
    string_bytes l.out
    ++ spec.stubs_from l.total l.steps l.number (drop l.number l.flights)
    ≡ string_bytes l.fn.out ++ spec.stubs_from l.total l.steps 0 l.flights
