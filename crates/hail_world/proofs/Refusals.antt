-- Why a text isn't run.
use Rattle.std.proofs.Common.{◌≡◌, ℕ, List, Err, ◌⊎◌, inl, inr}
use Rattle.cw_base.specs.declared.hash.Digest32.{Digest32}
use Rattle.cw_rules.specs.declared.travel.Travel.{Travel}
use Rattle.hail_script.specs.declared.error.RunError.{RunError}
use Rattle.hail_script.specs.declared.error.RunError.TheVariants as error
use Rattle.hail_script.specs.Grammar as grammar
use Rattle.hail_script.proofs.Causes.{early}
use Rattle.hail_world.specs.Reports.{Clashing, IsCause}

-- refusals of a script are causes
pub refused : (travel : Travel) (hash : List ℕ → Digest32) (text : List ℕ) (e : RunError)
    → (e ≡ error.NoMemory) ⊎ (grammar.script_by travel text ≡ Err e) → IsCause travel hash text e
refused travel hash text e (inl h) = rw h tt
refused travel hash text error.NoMemory (inr h) = tt
refused travel hash text (error.HashClash earlier later) (inr h) =
    absurd (early travel text (error.HashClash earlier later) h)
refused travel hash text error.BadCommittee (inr h) = h
refused travel hash text error.TooManyFaulty (inr h) = h
refused travel hash text (error.Syntax line) (inr h) = h
refused travel hash text (error.UnknownMember line) (inr h) = h
refused travel hash text (error.OversizeBlock line) (inr h) = h
