-- What a program answers that runs a source's script, from what the parts of its frame do.
use Rattle.std.proofs.Common.{◌≡◌, ◌∙◌, ℕ, Err, List, Ok, Option, Result, ap, refl, subst, sym}
use Rattle.cw_base.specs.Causes.{Rose}
use Rattle.cw_base.specs.declared.hash.Digest32.{Digest32}
use Rattle.cw_rules.specs.declared.travel.Travel.{Travel}
use Rattle.hail_report.specs.Answers.{AnswersSource, IsDueFor}
use Rattle.hail_report.specs.Exits.{IfDone}
use Rattle.hail_report.specs.declared.exit.Early.{Early}
use Rattle.hail_report.specs.declared.exit.Early.TheVariants as early
use Rattle.hail_report.specs.declared.exit.Exit.{Exit}
use Rattle.hail_report.specs.declared.exit.Exit.TheVariants.{Done, ReadFault, WriteFault}
use Rattle.hail_report.proofs.Answering.{OwesLine, answers_done, early_read, early_write, ended_early, finish_read, finish_write, finished}
use Rattle.hail_world.specs.Headline.{TellsRun}
use Rattle.hail_world.specs.Programs.{EndsMade, HasNoReport, HasRun, IsMade, WasRun}
use Rattle.hail_world.specs.declared.frame.Made.{Made}
use Rattle.hail_world.specs.declared.report.Ran.{Ran}

-- ---- what was made of a source's script

module _ {H W X : Type 0} {travel : Travel} {hash : List ℕ → Digest32}
    {IsDone : List ℕ → X → List ℕ → Type 0} {left rest : Option (List ℕ)}
    {reads later_reads : ℕ} where
  -- it is made of the run
  pub made_done : {ran : Ran H W} → HasRun travel hash left rest reads later_reads (Ok ran)
      → (m : Made X)
      → ((text : List ℕ) → WasRun travel hash text rest ran → IsDone text m.done m.text.items)
      → IsMade travel hash IsDone left rest reads later_reads (Ok m)
  made_done it m is = record {
    read = it.read;
    given = it.given;
    done = (it.ran.whole, is it.read it.ran);
    early = tt;
  }

  -- memory was short behind the run
  pub made_short : {ran : Ran H W} → HasRun travel hash left rest reads later_reads (Ok ran)
      → IsMade travel hash IsDone left rest reads later_reads (Err early.NoMemory)
  made_short it = record { read = it.read; given = it.given; done = tt; early = tt }

  -- there is no report
  pub made_early : {e : Early}
      → HasRun {H = H} {W = W} travel hash left rest reads later_reads (Err e)
      → IsMade travel hash IsDone left rest reads later_reads (Err e)
  made_early it = record { read = it.read; given = it.given; done = tt; early = it.early }

-- ---- what each answer means

-- the line of a cause is due
owes_line : {X : Type 0} (travel : Travel) (hash : List ℕ → Digest32)
    (IsDone : List ℕ → X → List ℕ → Type 0) (read : List ℕ) (rest : Option (List ℕ))
    (reads later_reads : ℕ) (e : Early) → HasNoReport travel hash read rest reads later_reads e
    → OwesLine (IsDueFor (TellsRun travel hash IsDone) read rest) e
owes_line travel hash IsDone read rest reads later early.TooLong h = (h, refl)
owes_line travel hash IsDone read rest reads later (early.Refused e) h = (h.0, (h.1, refl))
owes_line travel hash IsDone read rest reads later (early.Clash a b) h = (h.0, (h.1, refl))
owes_line travel hash IsDone read rest reads later early.ReadFault h = tt
owes_line travel hash IsDone read rest reads later early.NoMemory h = tt

module _ {X : Type 0} {travel : Travel} {hash : List ℕ → Digest32}
    {IsDone : List ℕ → X → List ℕ → Type 0} {left rest held written : Option (List ℕ)}
    {reads later_reads w later : ℕ} {result : Exit X} where
  pub made_answers : {made : Result (Made X) Early}
      → IsMade travel hash IsDone left rest reads later_reads made
      → EndsMade held written w later made result
      → AnswersSource (TellsRun travel hash IsDone) left rest held written result
  made_answers {made = Ok m} is ends = record {
    read = is.read;
    given = is.given;
    answers =
        finished (IsDueFor (TellsRun travel hash IsDone) is.read rest) held written w later
        (Done m.done) m.text.items result is.done (λ a. (m.text.items, is.done, a)) ends.done;
  }
  made_answers {made = Err e} is ends = record {
    read = is.read;
    given = is.given;
    answers =
        ended_early (IsDueFor (TellsRun travel hash IsDone) is.read rest) held written w later e
        result (owes_line travel hash IsDone is.read rest reads later_reads e is.early)
        ends.early;
  }

  -- a fault is told only where the source failed
  pub made_read : {made : Result (Made X) Early}
      → IsMade travel hash IsDone left rest reads later_reads made
      → EndsMade held written w later made result → result ≡ ReadFault → Rose reads later_reads
  made_read {made = Ok m} is ends fault =
      absurd
      (finish_read held written w later m.text.items (Done m.done) result (λ is. cc) ends.done
      fault)
  made_read {made = Err e} is ends fault =
      subst (HasNoReport travel hash is.read rest reads later_reads)
      (early_read held written w later e result ends.early fault) is.early

-- or the sink
pub made_write : {X : Type 0} {held written : Option (List ℕ)} {w later : ℕ} {result : Exit X}
    {made : Result (Made X) Early} → EndsMade held written w later made result
    → result ≡ WriteFault → Rose w later
made_write {held = held} {written = written} {w = w} {later = later} {result = result} {made = Ok m}
    ends fault =
    finish_write held written w later m.text.items (Done m.done) result (λ is. cc) ends.done fault
made_write {held = held} {written = written} {w = w} {later = later} {result = result} {made = Err e}
    ends fault =
    early_write held written w later e result ends.early fault

-- what is so of whatever the program makes of a text is so of what it hands back
pub source_done : {X : Type 0} {left rest held written : Option (List ℕ)} {result : Exit X}
    (travel : Travel) (hash : List ℕ → Digest32) (IsDone : List ℕ → X → List ℕ → Type 0)
    (P : X → Type 0) → ((text : List ℕ) (x : X) (due : List ℕ) → IsDone text x due → P x)
    → AnswersSource (TellsRun travel hash IsDone) left rest held written result
    → IfDone result P
source_done {rest = rest} {held = held} {written = written} {result = result} travel hash IsDone P
    gives h =
    answers_done (IsDueFor (TellsRun travel hash IsDone) h.read rest) held written P
    (λ x due is. gives h.read x due is.1) result h.answers
