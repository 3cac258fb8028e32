-- What reading a script gives.
use Rattle.std.specs.Prelude.{◌≡◌, ℕ, ◌+◌, ◌≤◌, List, length, Option}
use Rattle.std.specs.Io.KnownBytes.{Consumes, IsAtEnd}
use Rattle.cw_base.specs.Causes.{Rose}
use Rattle.hail_report.specs.declared.reading.Reading.{Reading}
use Rattle.hail_report.specs.declared.reading.Reading.TheVariants.{Whole, TooLong, Fault, NoMemory}

-- the most bytes of a script
abbrev pub script_limit : ℕ
script_limit = 16777216

-- a source gave these bytes, and no more than one byte past what a script may have
pub record HasGiven (left rest : Option (List ℕ)) (read : List ℕ) : Type 0 where
  pub front : Consumes left rest read
  pub bounded : length read ≤ script_limit + 1

-- they are all that it had, and no more than a script may have
abbrev pub IsWhole : List ℕ → Option (List ℕ) → Type 0
IsWhole read rest = IsAtEnd rest × (length read ≤ script_limit)

-- what is told of the bytes that were read, and of how often the source had failed, before and
-- after
abbrev pub TellsRead : List ℕ → Option (List ℕ) → ℕ → ℕ → Reading → Type 0
TellsRead read rest faults later (Whole text) = (text.items ≡ read) × IsWhole read rest
TellsRead read rest faults later TooLong = length read ≡ script_limit + 1
TellsRead read rest faults later Fault = Rose faults later
TellsRead read rest faults later NoMemory = Unit {0}

-- what was read of a source
pub record Reads (left rest : Option (List ℕ)) (faults later : ℕ)
    (reading : Reading) : Type 0 where
  pub read : List ℕ
  pub given : HasGiven left rest read
  pub told : TellsRead read rest faults later reading
