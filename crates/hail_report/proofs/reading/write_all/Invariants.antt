use Rattle.std.proofs.Common.{◌-◌, ◌≤◌, take, length}
use Rattle.std.specs.Io.KnownBytes.{Appends}
use Rattle.hail_report.proofs.reading.write_all.Given as goal

-- the first bytes of the text went out
abbrev pub invariant-pieces : goal.invariant-pieces
invariant-pieces g l =
    record {
      wrote : Appends (g.O.Sink.held l.fn.output) (g.O.Sink.held l.output) (take l.at l.text);
      within : l.at ≤ length l.text;
      later : g.O.Sink.faults l.fn.output ≤ g.O.Sink.faults l.output;
    }

abbrev pub decreases-pieces : goal.decreases-pieces
decreases-pieces g l = length l.text - l.at
