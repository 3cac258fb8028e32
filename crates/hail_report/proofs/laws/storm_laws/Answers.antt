use Rattle.hail_report.proofs.StormLines.{storm_runs, storm_short}
use Rattle.hail_report.proofs.laws.storm_laws.Goals as goal

pub returns : goal.returns
returns c = record {
  runs = storm_runs;
  short = storm_short;
}
