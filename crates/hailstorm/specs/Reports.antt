-- When a report is that of a text whose blocks travel in chunks, and why there is none.
use Rattle.std.specs.Prelude.{ℕ, List}
use Rattle.cw_base.specs.declared.hash.Digest32.{Digest32}
use Rattle.cw_rules.specs.declared.travel.Travel.TheVariants as travel
use Rattle.hail_script.specs.declared.error.RunError.{RunError}
use Rattle.node.specs.declared.way.Chunked.{Chunked}
use Rattle.hail_world.specs.declared.report.Report.{Report as ReportBy}
use Rattle.hail_world.specs.Reports as world
pub use Rattle.hail_world.specs.Reports.{AreNodesOf, HoldNotes, IsClashOf, IsRun, honest, honest_at, honest_numbers, shown_report}

-- the report of a run, by its hasher
abbrev pub Report : Type 0 → Type 0
Report H = ReportBy H Chunked

-- the text spells a script that is run, and this is the report of its run
abbrev pub IsReport : {H : Type 0} → (List ℕ → Digest32) → List ℕ → Report H → Type 0
IsReport hash text report = world.IsReport travel.Chunked hash text report

-- the text spells a script that ends in this clash
abbrev pub Clashing : (List ℕ → Digest32) → List ℕ → List ℕ → List ℕ → Type 0
Clashing hash text earlier later = world.Clashing travel.Chunked hash text earlier later

-- why there is no report
abbrev pub IsCause : (List ℕ → Digest32) → List ℕ → RunError → Type 0
IsCause hash text e = world.IsCause travel.Chunked hash text e
