-- What each answer of a program means that reads a script, runs it, and writes what it makes of the
-- run: one table for all of them. An answer means what was read, and that what the program tells of
-- that was written.
--
-- Of a source, `left` is what it had left before the call, and `rest` what it has left behind it;
-- of a sink, `held` is what it held before the call, and `written` what it holds behind it. Each is
-- None where the stream doesn't tell its bytes. Nothing is asked of the bytes of such a stream; so
-- over a source that tells none an answer means that there are some bytes of which it is true.
use Rattle.std.specs.Prelude.{ℕ, ◌+◌, ◌≡◌, List, Option, length}
use Rattle.std.specs.Io.KnownBytes.{Appends, Keeps}
use Rattle.hail_report.specs.declared.exit.Exit.{Exit}
use Rattle.hail_report.specs.declared.exit.Exit.TheVariants.{NoMemory, ReadFault, TooLong, WriteFault}
use Rattle.hail_report.specs.Reading.{HasGiven, IsWhole, script_limit}
use Rattle.hail_report.specs.Text.{too_long_line}
use Rattle.hail_report.specs.Writing.{WritesFront}

-- What was written, by the answer, where `IsDue` says which text is due for which answer. Where the
-- source failed or memory is short, nothing; where the sink failed, a front of a text that is due
-- for some answer; else the text that is due for this one, whole, and nothing else.
module _ {X : Type 0} (IsDue : Exit X → List ℕ → Type 0) (held written : Option (List ℕ)) where
  abbrev pub Answers : Exit X → Type 0
  Answers ReadFault = Keeps held written
  Answers NoMemory = Keeps held written
  Answers WriteFault =
      (exit : Exit X) × (due : List ℕ) × IsDue exit due × WritesFront held written due
  Answers exit = (due : List ℕ) × IsDue exit due × Appends held written due

-- What is due for the bytes that were read, where `Tells` says what the program answers to a text
-- and writes of it. For one byte more than a script may have, the line that says so; else they were
-- all that the source had, and it is what the program tells of them.
module _ {X : Type 0} (Tells : List ℕ → Exit X → List ℕ → Type 0) (read : List ℕ)
    (rest : Option (List ℕ)) where
  abbrev pub IsDueFor : Exit X → List ℕ → Type 0
  IsDueFor TooLong due = (length read ≡ script_limit + 1) × (due ≡ too_long_line)
  IsDueFor exit due = IsWhole read rest × Tells read exit due

-- what a program answers to a source
pub record AnswersSource {X : Type 0} (Tells : List ℕ → Exit X → List ℕ → Type 0)
    (left rest held written : Option (List ℕ)) (exit : Exit X) : Type 0 where
  pub read : List ℕ
  pub given : HasGiven left rest read
  pub answers : Answers (IsDueFor Tells read rest) held written exit
