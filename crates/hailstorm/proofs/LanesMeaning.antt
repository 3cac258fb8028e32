-- What the lanes program answers, from what its parts do.
use Rattle.std.proofs.Common.{◌≡◌, ℕ, List, Option, refl}
use Rattle.cw_base.specs.declared.hash.Digest32.{Digest32}
use Rattle.hail_script.specs.declared.error.RunError.{RunError}
use Rattle.hail_script.specs.declared.error.RunError.TheVariants as error
use Rattle.hail_report.specs.Answers.{Answers}
use Rattle.hail_report.specs.Exits.{EndsEarly, Finishes, early_of}
use Rattle.hail_report.specs.declared.exit.Exit.{Exit}
use Rattle.hail_report.specs.declared.exit.Exit.TheVariants.{Clash, Done, TooLong}
use Rattle.hail_report.proofs.Answering.{OwesLine, ended_early, finished}
use Rattle.hailstorm.specs.Lanes.{IsLanesCause, IsLanesClash, IsLanesReport}
use Rattle.hailstorm.specs.LanesProgram.{TellsLanes, clash_lines, lanes_text}
use Rattle.hailstorm.specs.Reports.{Report}

module _ (H : Type 0) (hash : List ℕ → Digest32) (text : List ℕ) where
  -- the line of a cause that is no clash is due
  owes_lanes : (order : List ℕ) (x : RunError) → ((a b : List ℕ) → x ≡ error.HashClash a b → ⊥)
      → IsLanesCause hash text order x → OwesLine (TellsLanes {H = H} hash text) (early_of x)
  owes_lanes order error.NoMemory other cause = tt
  owes_lanes order (error.HashClash a b) other cause = absurd (other a b refl)
  owes_lanes order error.BadCommittee other cause = (cause.1, refl)
  owes_lanes order error.TooManyFaulty other cause = (cause.1, refl)
  owes_lanes order (error.Syntax l) other cause = (cause.1, refl)
  owes_lanes order (error.UnknownMember l) other cause = (cause.1, refl)
  owes_lanes order (error.OversizeBlock l) other cause = (cause.1, refl)

  module _ (held written : Option (List ℕ)) (w later : ℕ)
      (result : Exit (List ℕ × Report H)) where
    -- the order and the text of the report were written
    pub lanes_done : (order : List ℕ) (r : Report H) (due : List ℕ)
        → IsLanesReport hash text order r → due ≡ lanes_text hash order r
        → Finishes held written w later due (Done (order, r)) result
        → Answers (TellsLanes hash text) held written result
    lanes_done order r due told is ends =
        finished (TellsLanes hash text) held written w later (Done (order, r)) due result
        (told, is) (λ a. (due, (told, is), a)) ends

    -- the order and the line of the clash
    pub lanes_clash : (order a b due : List ℕ) → IsLanesClash hash text order a b
        → due ≡ clash_lines order a b → Finishes held written w later due (Clash a b) result
        → Answers (TellsLanes hash text) held written result
    lanes_clash order a b due clash is ends =
        finished (TellsLanes hash text) held written w later (Clash a b) due result
        (order, clash, is) (λ t. (due, (order, clash, is), t)) ends

    -- the line of another cause
    pub lanes_early : (order : List ℕ) (x : RunError)
        → ((a b : List ℕ) → x ≡ error.HashClash a b → ⊥) → IsLanesCause hash text order x
        → EndsEarly held written w later (early_of x) result
        → Answers (TellsLanes hash text) held written result
    lanes_early order x other cause ends =
        ended_early (TellsLanes hash text) held written w later (early_of x) result
        (owes_lanes order x other cause) ends

  -- no text is too long by itself
  pub never_long : (due : List ℕ) → TellsLanes {H = H} hash text TooLong due → ⊥
  never_long due h = h
