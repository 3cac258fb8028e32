-- How a program ends that reads a script, runs it, and writes what it makes of the run.
use Rattle.std.specs.Prelude.{ℕ, ◌≡◌, ◌⊎◌, List, Option}
use Rattle.std.specs.Io.KnownBytes.{Appends, Keeps}
use Rattle.cw_base.specs.Causes.{Rose}
use Rattle.hail_script.specs.declared.error.RunError.{RunError}
use Rattle.hail_script.specs.declared.error.RunError.TheVariants as error
use Rattle.hail_report.specs.declared.exit.Early.{Early}
use Rattle.hail_report.specs.declared.exit.Early.TheVariants as early
use Rattle.hail_report.specs.declared.exit.Exit.{Exit}
use Rattle.hail_report.specs.declared.exit.Exit.TheVariants.{Clash, Done, NoMemory, ReadFault, Refused, TooLong, Usage, WriteFault}
use Rattle.hail_report.specs.Text.{error_line, too_long_line}
use Rattle.hail_report.specs.Writing.{WritesFront}

-- the exit status
abbrev pub status_of : {R : Type 0} → Exit R → ℕ
status_of (Done r) = 0
status_of Usage = 2
status_of TooLong = 3
status_of (Refused e) = 3
status_of (Clash earlier later) = 4
status_of ReadFault = 5
status_of WriteFault = 6
status_of NoMemory = 7

-- a fact of what is handed back, where all went well
abbrev pub IfDone : {R : Type 0} → Exit R → (R → Type 0) → Type 0
IfDone (Done r) P = P r
IfDone _ P = Unit {0}

-- The text was written and the end is as given, or the sink failed behind a front of the text.
abbrev pub Finishes : {R : Type 0} → Option (List ℕ) → Option (List ℕ) → ℕ → ℕ → List ℕ → Exit R
    → Exit R → Type 0
Finishes held written writes later_writes text exit result =
    ((result ≡ exit) × Appends held written text)
    ⊎ ((result ≡ WriteFault) × Rose writes later_writes × WritesFront held written text)

-- ---- the parts of a program

-- why a run has no report
abbrev pub early_of : RunError → Early
early_of error.NoMemory = early.NoMemory
early_of (error.HashClash earlier later) = early.Clash earlier later
early_of e = early.Refused e

-- memory is short, and nothing was written
abbrev pub IsShort : {R : Type 0} → Option (List ℕ) → Option (List ℕ) → Exit R → Type 0
IsShort held written result = (result ≡ NoMemory) × Keeps held written

-- the line of the cause is written and the end is so; of a fault of the source, and where memory is
-- short, nothing
abbrev pub EndsEarly : {R : Type 0} → Option (List ℕ) → Option (List ℕ) → ℕ → ℕ → Early → Exit R
    → Type 0
EndsEarly held written writes later_writes early.TooLong result =
    Finishes held written writes later_writes too_long_line TooLong result
EndsEarly held written writes later_writes (early.Refused e) result =
    Finishes held written writes later_writes (error_line e) (Refused e) result
    ⊎ IsShort held written result
EndsEarly held written writes later_writes (early.Clash earlier later) result =
    Finishes held written writes later_writes (error_line (error.HashClash earlier later))
    (Clash earlier later) result
    ⊎ IsShort held written result
EndsEarly held written writes later_writes early.ReadFault result =
    (result ≡ ReadFault) × Keeps held written
EndsEarly held written writes later_writes early.NoMemory result = IsShort held written result
