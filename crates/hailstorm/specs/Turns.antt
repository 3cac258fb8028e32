-- A cluster whose lanes have turns.
use Rattle.std.specs.Prelude.{[], ℕ, ◌++◌, ◌+◌, ◌∷◌, ◌≡◌, ◌⊎◌, ◌≤◌, Err, List, None, Ok, Option, Result, Some, drop, false, length, map, take}
use Rattle.cw_base.specs.declared.hash.Digest32.{Digest32}
use Rattle.cw_rules.specs.Chains.{Clashes, Ends, outcome}
use Rattle.cw_rules.specs.Report.{Entry, entry_of}
use Rattle.cw_rules.specs.World.{Line, run}
use Rattle.hail_script.specs.declared.error.RunError.{RunError}
use Rattle.hail_script.specs.declared.error.RunError.TheVariants as error
use Rattle.hail_script.specs.Lanes.{Laned, lanes, rows}
use Rattle.hail_world.specs.Clusters.{Cluster}
use Rattle.hail_world.specs.Places.{script_rules}
use Rattle.hail_world.specs.Played.{lines_of}
use Rattle.hail_world.specs.Runs.{opened}
use Rattle.hailstorm.specs.Lanes.{but_last, lane_at, left, played, turns_of}

-- ---- a cluster between two turns

-- the lines from one place up to another
abbrev pub between : List (ℕ × Line) → ℕ × ℕ → List (ℕ × Line)
between rows (from, end) = drop from (take end rows)

-- the cluster has played these turns and goes on, and of each lane these lines are left
pub record IsBetween (x : Laned) (order : List ℕ) (cluster : Cluster)
    (cursors : List (ℕ × ℕ)) : Type 0 where
  pub played : cluster ≡ record { script = x.script; rows = played x order; over = false }
  pub rest : left (lanes x) order ≡ map (between (rows x)) cursors
  pub turns : (k : ℕ)
      → turns_of k order + length (lane_at (left (lanes x) order) k) ≡ length (lane_at (lanes x) k)

-- the last of these turns met this clash
pub record HasMet (hash : List ℕ → Digest32) (x : Laned) (order : List ℕ)
    (earlier later : List ℕ) : Type 0 where
  pub ends : outcome (script_rules hash x.script) (opened hash x.script) (lines_of (played x order))
      ≡ Clashes earlier later
  pub before : outcome (script_rules hash x.script) (opened hash x.script)
      (lines_of (played x (but_last order)))
      ≡ Ends
      (run (script_rules hash x.script) (opened hash x.script)
      (lines_of (played x (but_last order))))
  pub turns : (k : ℕ) → turns_of k order ≤ length (lane_at (lanes x) k)

-- why no further line is played: the last turn met a clash, or memory is short
abbrev pub IsOver : (List ℕ → Digest32) → Laned → List ℕ → RunError → Type 0
IsOver hash x order error.NoMemory = Unit {0}
IsOver hash x order (error.HashClash earlier later) = HasMet hash x order earlier later
IsOver hash x order _ = ⊥

-- the cluster of a script with lanes: the lanes that had a turn, and why no further line is played,
-- where that is so
pub record Turning : Type 0 where
  pub laned : Laned
  pub order : List ℕ
  pub stopped : Option RunError

-- what is known of it
abbrev pub IsTurning : (List ℕ → Digest32) → Laned → List ℕ → Option RunError → Cluster
    → List (ℕ × ℕ) → Type 0
IsTurning hash x order None cluster cursors = IsBetween x order cluster cursors
IsTurning hash x order (Some e) cluster cursors = IsOver hash x order e

-- ---- a turn of a lane

-- the next line of the lane, and its entry by the rules
pub record HasAdvanced (hash : List ℕ → Digest32) (x : Laned) (order : List ℕ) (k : ℕ)
    (entry : Entry) : Type 0 where
  pub row : ℕ × Line
  pub next : take 1 (lane_at (left (lanes x) order) k) ≡ row ∷ []
  pub gives : entry
      ≡ entry_of (script_rules hash x.script)
      (run (script_rules hash x.script) (opened hash x.script) (lines_of (played x order))) row.0
      row.1

-- what the reply of a turn means
abbrev pub Replies : (List ℕ → Digest32) → Turning → ℕ → Result (Option Entry) RunError → Turning
    → Type 0
Replies hash old k (Ok (Some entry)) new =
    HasAdvanced hash old.laned old.order k entry × (new.order ≡ old.order ++ k ∷ [])
    × (new.stopped ≡ None)
Replies hash old k (Ok None) new = (new ≡ old) × (lane_at (left (lanes old.laned) old.order) k ≡ [])
Replies hash old k (Err e) new = (new.stopped ≡ Some e) × IsOver hash new.laned new.order e

-- a turn of a lane: one line of the script; but behind an error nothing changes, and the error is
-- told again, or that memory is short
abbrev pub IsTurnBy : (List ℕ → Digest32) → Turning → ℕ → Result (Option Entry) RunError → Turning
    → Option RunError → Type 0
IsTurnBy hash old k reply new None = Replies hash old k reply new
IsTurnBy hash old k reply new (Some e) =
    (new ≡ old) × ((reply ≡ Err e) ⊎ (reply ≡ Err error.NoMemory))

abbrev pub IsTurnOf : (List ℕ → Digest32) → Turning → ℕ → Result (Option Entry) RunError → Turning
    → Type 0
IsTurnOf hash old k reply new = (new.laned ≡ old.laned) × IsTurnBy hash old k reply new old.stopped

-- ---- the end of a run

-- the lanes that are told beside an error: with a clash those that had a turn, else none
abbrev pub told_order : List ℕ → RunError → List ℕ
told_order order (error.HashClash earlier later) = order
told_order order _ = []
