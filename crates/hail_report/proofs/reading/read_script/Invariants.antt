use Rattle.std.proofs.Common.{◌≡◌, ◌-◌, ◌≤◌, length}
use Rattle.std.specs.Io.KnownBytes.{Consumes}
use Rattle.hail_report.proofs.reading.read_script.Given as goal

-- what was read so far is what the source had left in front
abbrev pub invariant-pieces : goal.invariant-pieces
invariant-pieces g l =
    record {
      read : Consumes (g.I.Source.left l.fn.input) (g.I.Source.left l.input) l.text.items;
      within : length l.text.items ≤ 16777217;
      later : g.I.Source.faults l.fn.input ≤ g.I.Source.faults l.input;
      room : length l.room ≡ 4096;
    }

abbrev pub decreases-pieces : goal.decreases-pieces
decreases-pieces g l = 16777218 - length l.text.items
