-- The picture of the run of a script.
use Rattle.std.specs.Prelude.{◌≡◌, ◌++◌, ℕ, List, [], ◌∷◌, codes, map}
use Rattle.cw_base.specs.declared.hash.Digest32.{Digest32}
use Rattle.cw_types.specs.Encoding.{block_bytes}
use Rattle.cw_rules.specs.Report.{Entry, Report as Reported}
use Rattle.cw_rules.specs.World.{Line}
use Rattle.cw_rules.specs.declared.travel.Travel.TheVariants as travel
use Rattle.hail_script.specs.Grammar.{faulty_marks}
use Rattle.hail_script.specs.Scenario.{Scenario}
use Rattle.run_picture.specs.Picture.{picture}
use Rattle.run_picture.specs.Steps.{Step}
use Rattle.run_picture.specs.Told.{said_of}
use Rattle.node.specs.declared.way.Chunked.{Chunked}
use Rattle.hail_world.specs.declared.report.Report.{Report}
use Rattle.hail_world.specs.Reports.{IsReport, shown_report}
use Rattle.hail_report.specs.Text.{line}

-- what a line did, by its entry
abbrev pub step_of : Line → Entry → Step
step_of l e = record {
  number = e.line;
  line = l;
  found = e.found;
  sent = map said_of e.sent;
  handed = map (λ h. h.height) e.handed;
}

-- the lines of a script, each with its entry
abbrev pub steps_of : List Line → List Entry → List Step
steps_of lines [] = []
steps_of [] (e ∷ entries) = []
steps_of (l ∷ lines) (e ∷ entries) = step_of l e ∷ steps_of lines entries

-- the picture of a script's report
abbrev pub picture_of_report : (List ℕ → Digest32) → Scenario → Reported → List ℕ
picture_of_report hash s r =
    picture (faulty_marks s.lines s.committees.total) (steps_of s.lines r.steps)
    (map (λ b. hash (block_bytes b)) r.chain)

-- this is the report of the run of the text's script, and the picture of it is due
pub record IsDrawn {H : Type 0} (hash : List ℕ → Digest32) (text : List ℕ)
    (report : Report H Chunked) (due : List ℕ) : Type 0 where
  pub reported : IsReport travel.Chunked hash text report
  pub drawn : due ≡ picture_of_report hash reported.script (shown_report report)

-- the answer to words
abbrev pub usage_line : List ℕ
usage_line = line (codes "usage: hail_picture")
