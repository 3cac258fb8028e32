-- The parts of a program that reads a script, runs it, and writes what it makes of the report.
use Rattle.std.specs.Prelude.{ℕ, ◌+◌, ◌≡◌, Err, IfErr, IfOk, List, Ok, Option, Result, length}
use Rattle.cw_base.specs.Causes.{Rose}
use Rattle.cw_base.specs.declared.hash.Digest32.{Digest32}
use Rattle.cw_rules.specs.declared.travel.Travel.{Travel}
use Rattle.hail_script.specs.Grammar.{script_by}
use Rattle.hail_report.specs.declared.exit.Early.{Early}
use Rattle.hail_report.specs.declared.exit.Early.TheVariants as early
use Rattle.hail_report.specs.declared.exit.Exit.{Exit}
use Rattle.hail_report.specs.declared.exit.Exit.TheVariants.{Done}
use Rattle.hail_report.specs.Exits.{EndsEarly, Finishes}
use Rattle.hail_report.specs.Reading.{HasGiven, IsWhole, script_limit}
use Rattle.hail_world.specs.declared.frame.Made.{Made}
use Rattle.hail_world.specs.declared.report.Ran.{Ran}
use Rattle.hail_world.specs.Reports.{Clashing, IsReport, IsRun}

-- the bytes that were read are the whole of a source, and spell the script that was run; and this
-- is the report of its run
pub record WasRun {H W : Type 0} (travel : Travel) (hash : List ℕ → Digest32) (read : List ℕ)
    (rest : Option (List ℕ)) (ran : Ran H W) : Type 0 where
  pub whole : IsWhole read rest
  pub spells : script_by travel read ≡ Ok ran.script
  pub run : IsRun hash ran.script ran.report
  pub report : IsReport travel hash read ran.report

-- Why there is no report, of the bytes that were read. A text that is refused, or whose run ends in
-- a clash, is the whole of a source; where the source failed, its count of faults rose.
abbrev pub HasNoReport : Travel → (List ℕ → Digest32) → List ℕ → Option (List ℕ) → ℕ → ℕ → Early
    → Type 0
HasNoReport travel hash read rest reads later_reads early.TooLong =
    length read ≡ script_limit + 1
HasNoReport travel hash read rest reads later_reads (early.Refused e) =
    IsWhole read rest × (script_by travel read ≡ Err e)
HasNoReport travel hash read rest reads later_reads (early.Clash earlier later) =
    IsWhole read rest × Clashing travel hash read earlier later
HasNoReport travel hash read rest reads later_reads early.ReadFault = Rose reads later_reads
HasNoReport travel hash read rest reads later_reads early.NoMemory = Unit {0}

-- what came of a source's script
pub record HasRun {H W : Type 0} (travel : Travel) (hash : List ℕ → Digest32)
    (left rest : Option (List ℕ)) (reads later_reads : ℕ)
    (result : Result (Ran H W) Early) : Type 0 where
  pub read : List ℕ
  pub given : HasGiven left rest read
  pub ran : IfOk result (λ ran. WasRun travel hash read rest ran)
  pub early : IfErr result (λ e. HasNoReport travel hash read rest reads later_reads e)

-- what a program made of a source's script: what it hands back of the text and writes (`IsDone`),
-- or nothing
pub record IsMade {X : Type 0} (travel : Travel) (hash : List ℕ → Digest32)
    (IsDone : List ℕ → X → List ℕ → Type 0) (left rest : Option (List ℕ)) (reads later_reads : ℕ)
    (made : Result (Made X) Early) : Type 0 where
  pub read : List ℕ
  pub given : HasGiven left rest read
  pub done : IfOk made (λ m. IsWhole read rest × IsDone read m.done m.text.items)
  pub early : IfErr made (λ e. HasNoReport travel hash read rest reads later_reads e)

-- what was made was written and handed back, or the line of the cause was written, or a front of
-- either
pub record EndsMade {X : Type 0} (held written : Option (List ℕ)) (writes later_writes : ℕ)
    (made : Result (Made X) Early) (exit : Exit X) : Type 0 where
  pub done : IfOk made
      (λ m. Finishes held written writes later_writes m.text.items (Done m.done) exit)
  pub early : IfErr made (λ e. EndsEarly held written writes later_writes e exit)
