-- What is told of a text, from how its run ended.
use Rattle.std.proofs.Common.{◌≡◌, ◌∙◌, ℕ, Err, List, Ok, Option, Result, refl, subst, sym}
use Rattle.cw_base.specs.declared.hash.Digest32.{Digest32}
use Rattle.cw_rules.specs.declared.travel.Travel.{Travel}
use Rattle.hail_script.specs.declared.error.RunError.{RunError}
use Rattle.hail_script.specs.declared.error.RunError.TheVariants as error
use Rattle.hail_script.specs.Grammar.{script_by}
use Rattle.hail_script.specs.Scenario.{Scenario}
use Rattle.hail_report.specs.Answers.{Answers}
use Rattle.hail_report.specs.Exits.{EndsEarly, Finishes, early_of}
use Rattle.hail_report.specs.Reading.{HasGiven, IsWhole}
use Rattle.hail_report.specs.declared.exit.Exit.{Exit}
use Rattle.hail_report.specs.declared.exit.Exit.TheVariants.{Done, Refused}
use Rattle.hail_report.proofs.Answering.{OwesLine, ended_early, finished}
use Rattle.hail_world.specs.Headline.{TellsRun}
use Rattle.hail_world.specs.Programs.{HasNoReport, WasRun}
use Rattle.hail_world.specs.Reports.{IsCause}
use Rattle.hail_world.specs.declared.report.Ran.{Ran}

-- what was read whole is the text
pub whole_text : (left rest : Option (List ℕ)) (read text : List ℕ) → text ≡ read
    → HasGiven left rest read → IsWhole read rest → HasGiven left rest text × IsWhole text rest
whole_text left rest read text is given whole =
    subst (λ (t : List ℕ). HasGiven left rest t × IsWhole t rest) (sym is) (given, whole)

-- the script that was run is that of the report
pub same_script : {H W : Type 0} {travel : Travel} {hash : List ℕ → Digest32} {read : List ℕ}
    {rest : Option (List ℕ)} {ran : Ran H W} → (run : WasRun travel hash read rest ran)
    → ran.script ≡ run.report.script
same_script {ran = ran} run =
    let both : Ok ran.script ≡ Ok run.report.script =
    sym run.spells ∙ run.report.in_grammar in cc

-- why the run of what was read has no report
pub cause_early : (travel : Travel) (hash : List ℕ → Digest32) (read : List ℕ)
    (rest : Option (List ℕ)) (reads later_reads : ℕ) → IsWhole read rest → (x : RunError)
    → IsCause travel hash read x
    → HasNoReport travel hash read rest reads later_reads (early_of x)
cause_early travel hash read rest reads later whole error.NoMemory cause = tt
cause_early travel hash read rest reads later whole (error.HashClash a b) cause = (whole, cause)
cause_early travel hash read rest reads later whole error.BadCommittee cause = (whole, cause)
cause_early travel hash read rest reads later whole error.TooManyFaulty cause = (whole, cause)
cause_early travel hash read rest reads later whole (error.Syntax l) cause = (whole, cause)
cause_early travel hash read rest reads later whole (error.UnknownMember l) cause = (whole, cause)
cause_early travel hash read rest reads later whole (error.OversizeBlock l) cause = (whole, cause)

module _ {X : Type 0} (travel : Travel) (hash : List ℕ → Digest32)
    (IsDone : List ℕ → X → List ℕ → Type 0) (text : List ℕ) where
  -- the line of the cause is due
  pub owes_cause : (x : RunError) → IsCause travel hash text x
      → OwesLine (TellsRun travel hash IsDone text) (early_of x)
  owes_cause error.NoMemory cause = tt
  owes_cause (error.HashClash a b) cause = (cause, refl)
  owes_cause error.BadCommittee cause = (cause, refl)
  owes_cause error.TooManyFaulty cause = (cause, refl)
  owes_cause (error.Syntax l) cause = (cause, refl)
  owes_cause (error.UnknownMember l) cause = (cause, refl)
  owes_cause (error.OversizeBlock l) cause = (cause, refl)

  module _ (held written : Option (List ℕ)) (w later : ℕ) where
    -- what the program made of the text was written
    pub told_done : (x : X) (due : List ℕ) (result : Exit X) → IsDone text x due
        → Finishes held written w later due (Done x) result
        → Answers (TellsRun travel hash IsDone text) held written result
    told_done x due result is ends =
        finished (TellsRun travel hash IsDone text) held written w later (Done x) due result is
        (λ a. (due, is, a)) ends

    -- the line of the cause was written
    pub told_early : (x : RunError) (result : Exit X) → IsCause travel hash text x
        → EndsEarly held written w later (early_of x) result
        → Answers (TellsRun travel hash IsDone text) held written result
    told_early x result cause ends =
        ended_early (TellsRun travel hash IsDone text) held written w later (early_of x) result
        (owes_cause x cause) ends

  -- a script that is run isn't refused
  pub not_refused : (s : Scenario) → script_by travel text ≡ Ok s
      → (held written : Option (List ℕ)) (result : Exit X)
      → Answers (TellsRun travel hash IsDone text) held written result → (e : RunError)
      → result ≡ Refused e → ⊥
  not_refused s spells held written result h e is =
      let told = subst (Answers (TellsRun travel hash IsDone text) held written) is h in
      let both : Ok s ≡ Err e = sym spells ∙ told.1.0 in cc
