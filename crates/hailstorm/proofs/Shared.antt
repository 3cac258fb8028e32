-- A cluster that lanes shared.
use Rattle.std.proofs.Common.{◌≡◌, ℕ, List, [], ◌∷◌, Option, Some, Result, sym, ap, ◌∙◌}
use Rattle.std.proofs.Math.Logic.{∥∥₁_elim}
use base.Stored.{Coded-set}
use Rattle.cw_base.specs.declared.hash.Digest32.{Digest32}
use Rattle.cw_rules.specs.Report.{Entry}
use Rattle.hail_script.specs.declared.error.RunError.{RunError}
use Rattle.hail_script.specs.Lanes.{Laned}
use Rattle.hail_script.specs.contracts.lanes.LaneScript.{the_row}
use Rattle.mailbox.specs.Replay.{IsReplay, Replays}
use Rattle.hailstorm.specs.Turns.{IsTurnOf, Turning}

-- two scripts are equal in at most one way
laned_prop : (a b : Laned) → IsProp (a ≡ b)
laned_prop a b = Coded-set the_row.coded a b

-- no turn changes its script
laned_kept : (hash : List ℕ → Digest32) (from to : Turning)
    (history : List (ℕ × Result (Option Entry) RunError))
    → Replays (λ old k reply new. IsTurnOf hash old k reply new) from history to
    → to.laned ≡ from.laned
laned_kept hash from to [] same = ap (λ (t : Turning). t.laned) (sym same)
laned_kept hash from to (x ∷ xs) (mid, turn, rest) = laned_kept hash mid to xs rest ∙ turn.0

pub shared_laned : (hash : List ℕ → Digest32) (named : Option Turning) (turning t : Turning)
    (history : List (ℕ × Result (Option Entry) RunError))
    → named ≡ Some turning
    → IsReplay (λ old k reply new. IsTurnOf hash old k reply new) named history t
    → t.laned ≡ turning.laned
shared_laned hash named turning t history is replay =
    ∥∥₁_elim replay (laned_prop t.laned turning.laned) (λ r.
    let same : r.0 ≡ turning = (let s : Some r.0 ≡ Some turning = sym r.1 ∙ is in cc) in
    laned_kept hash r.0 t history r.2 ∙ ap (λ (x : Turning). x.laned) same)
