use Rattle.std.proofs.Common.{arith}
use Rattle.std.proofs.lemmas.List.{take-append-drop}
use Rattle.cw_base.proofs.reader.Reader.be64.Goals as goal

pub returns-clause-place : goal.returns-clause-place
returns-clause-place c =
    record { taken = c.in-Some.front.now; parts = grind (arith, take-append-drop) }
