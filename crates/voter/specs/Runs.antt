-- Runs of nullified views, by their ends, in place of searches.
use Rattle.std.specs.Prelude.{ℕ, ◌≡◌, ◌≤◌, Bool, List, None, Option, Some, false, if◌then◌else◌, suc, true, unwrap_or, zero}
use Rattle.std.specs.Map.{lookup}
use Rattle.std.specs.Option.{is_some}
use Rattle.cw_types.specs.declared.note.Note.{Note}
use Rattle.cw_types.specs.declared.vote.Vote.{Vote}
use Rattle.cw_types.specs.declared.vote.Vote.TheVariants.{Finalize, Notarize, Nullify}
use Rattle.cw_rules.specs.Notes.{nullified}
use Rattle.note_scans.specs.Keys.{key_of, same_key}
use Rattle.note_scans.specs.declared.key.VoteKey.{VoteKey}
use Rattle.voter.specs.declared.runs.Run.{Run}

-- the view that a vote nullifies, once its certificate is noted, and its epoch
abbrev pub nullifying_vote : Vote → Option (ℕ × ℕ)
nullifying_vote (Notarize p) = None
nullifying_vote (Nullify epoch view) = Some (epoch, view)
nullifying_vote (Finalize p) = None

-- the view that a note nullifies, and its epoch
abbrev pub nullifying : Note → Option (ℕ × ℕ)
nullifying (Note.Cert s) = nullifying_vote s.vote
nullifying _ = None

-- the least number from which on all below the top pass
abbrev pub pass_from : (ℕ → Bool) → ℕ → ℕ
pass_from passes zero = 0
pass_from passes (suc n) = if passes n then pass_from passes n else suc n

-- the view from which on all views of the epoch below that one are nullified
abbrev pub nullified_from : List Note → ℕ → ℕ → ℕ
nullified_from notes epoch view = pass_from (nullified notes epoch) view

-- all from the first to the last pass, and neither the one before nor the one behind them does
pub record IsWholeRun (passes : ℕ → Bool) (first last : ℕ) : Type 0 where
  pub ordered : first ≤ last
  pub within : pass_from passes (suc last) ≡ first
  pub ended : passes (suc last) ≡ false

-- the run at a view of an epoch
abbrev pub run_at : ℕ → ℕ → List (VoteKey × Run) → Run
run_at epoch view entries =
    unwrap_or (lookup (same_key (key_of (Nullify epoch view))) entries)
    (record { first = 0; last = 0 })

-- at the last number of each run stands its first, and at the first its last
pub record AreEnds (passes : ℕ → Bool) (at : ℕ → Run) : Type 0 where
  pub firsts : (n : ℕ) → passes n ≡ true → passes (suc n) ≡ false
      → (at n).first ≡ pass_from passes n
  pub lasts : (n : ℕ) → passes n ≡ true → pass_from passes n ≡ n → IsWholeRun passes n (at n).last

-- the map has a key for each nullified view, and the runs of each epoch at their ends
pub record HaveRuns (notes : List Note) (entries : List (VoteKey × Run)) : Type 0 where
  pub keyed : (epoch view : ℕ) → nullified notes epoch view ≡ true
      → is_some (lookup (same_key (key_of (Nullify epoch view))) entries) ≡ true
  pub ends : (epoch : ℕ)
      → AreEnds (nullified notes epoch) (λ view. run_at epoch view entries)

-- the map has the key of the view that a note nullifies
abbrev pub IsEndPrepared : Note → List (VoteKey × Run) → Type 0
IsEndPrepared note entries =
    (e : ℕ × ℕ) → nullifying note ≡ Some e
    → is_some (lookup (same_key (key_of (Nullify e.0 e.1))) entries) ≡ true
