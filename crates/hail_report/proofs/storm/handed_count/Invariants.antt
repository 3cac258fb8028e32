use Rattle.std.proofs.Common.{◌≡◌, ◌≤◌, ◌*◌, ◌^◌, take}
use Rattle.hail_report.specs.Text.{handed_count}
use Rattle.hail_report.proofs.storm.handed_count.Given as goal

-- the sum so far
abbrev pub invariant-loop-entry : goal.invariant-loop-entry
invariant-loop-entry l = record {
  sum : l.count ≡ handed_count (take l.entry-index l.entries);
  bound : l.count ≤ 2 ^ 64 * l.entry-index;
}
