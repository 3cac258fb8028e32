-- What a program tells of a text that runs the script which the text spells. The table of answers,
-- with what was read and written, is `AnswersSource` in Answers.antt of `hail_report`.
--
-- Two records are called a report: what the rules tell of a run (`Reported` here), which is what is
-- written, and what a run hands back (`Report`), which has the members' disks and nodes beside it.
use Rattle.std.specs.Prelude.{ℕ, ◌≡◌, Err, List}
use Rattle.cw_base.specs.declared.hash.Digest32.{Digest32}
use Rattle.cw_rules.specs.Report.{Report as Reported}
use Rattle.cw_rules.specs.declared.travel.Travel.{Travel}
use Rattle.hail_script.specs.declared.error.RunError.TheVariants as error
use Rattle.hail_script.specs.Grammar.{script_by}
use Rattle.hail_report.specs.declared.exit.Exit.{Exit}
use Rattle.hail_report.specs.declared.exit.Exit.TheVariants.{Clash, Done, Refused}
use Rattle.hail_report.specs.Text.{error_line}
use Rattle.hail_world.specs.declared.report.Report.{Report}
use Rattle.hail_world.specs.Reports.{Clashing, IsReport, shown_report}

-- What is told of a text, where `IsDone` says what the program hands back of it and writes if all
-- goes well. Refused: the text isn't run, for this first cause, and its line is written. Clash: the
-- run ends in these two encodings of one digest, and the line that has both is written.
module _ {X : Type 0} (travel : Travel) (hash : List ℕ → Digest32)
    (IsDone : List ℕ → X → List ℕ → Type 0) (text : List ℕ) where
  abbrev pub TellsRun : Exit X → List ℕ → Type 0
  TellsRun (Done x) due = IsDone text x due
  TellsRun (Refused e) due = (script_by travel text ≡ Err e) × (due ≡ error_line e)
  TellsRun (Clash earlier later) due =
      Clashing travel hash text earlier later × (due ≡ error_line (error.HashClash earlier later))
  TellsRun _ due = ⊥

-- the report of the text's run is handed back, and `tell` of it is written: its whole text, or a
-- summary
abbrev pub IsRunOf : {H W : Type 0} → Travel → (List ℕ → Digest32) → (Reported → List ℕ) → List ℕ
    → Report H W → List ℕ → Type 0
IsRunOf travel hash tell text r due =
    IsReport travel hash text r × (due ≡ tell (shown_report r))

-- what is told by a program that hands back the report
abbrev pub TellsReport : {H W : Type 0} → Travel → (List ℕ → Digest32) → (Reported → List ℕ)
    → List ℕ → Exit (Report H W) → List ℕ → Type 0
TellsReport {H} {W} travel hash tell text exit due =
    TellsRun travel hash (IsRunOf {H = H} {W = W} travel hash tell) text exit due
