-- A node that takes turns: what it is seen as, and which turns of it are lawful.
use Rattle.std.specs.Prelude.{◌≡◌, ℕ, Bool, List, Ok, Result, false, true, IfOk, IsErrOf, OnErr, OnOk}
use Rattle.cw_base.specs.declared.hash.Digest32.{Digest32}
use Rattle.cw_types.specs.Block.{Block}
use Rattle.cw_types.specs.declared.event.Event.{Event}
use Rattle.cw_types.specs.declared.event.StepOut.{StepOut}
use Rattle.cw_types.specs.declared.vote.Vote.{Vote}
use Rattle.cw_rules.specs.Step as rule
use Rattle.node_disk.specs.Disk.{DiskState}
use Rattle.node_disk.specs.declared.log.StoreError.{StoreError}
use Rattle.node_disk.specs.declared.log.StoreError.TheVariants as store
use Rattle.node.specs.Disks.{HasTried}
use Rattle.node.specs.State.{IsAtWork, IsSameNode, NodeState, node_rules, notes_of_step, stepped}

-- a node, its verifier, and whether an answer of it was lost for want of memory
pub record SeatState (D A V : Type 0) : Type 0 where
  pub node : NodeState D A
  pub verifier : V
  pub lost : Bool

-- A step of a node, with what it answered: one step of the rules, or a refusal, by which the node
-- is out. Where it was out before, it answers Failed and nothing changes.
pub record IsStep {D A : Type 0} (hash : List ℕ → Digest32) (accepts : A → Block → Block → Bool)
    (signed : ℕ → Vote → Bool) (state : D → DiskState) (continues : D → D → Type 0)
    (old : NodeState D A) (event : Event) (result : Result StepOut StoreError) (new : NodeState D A)
    : Type 0 where
  pub step : IfOk result (λ out. stepped new.member out
      ≡ rule.step (node_rules hash accepts old) old.id signed old.member event)
  pub same : IsSameNode old new
  pub at_work : OnOk result (IsAtWork state new)
  pub err : OnErr result (new.member.live ≡ false)
  pub failed : old.member.live ≡ false → IsErrOf result store.Failed
  pub failed_same : old.member.live ≡ false → new ≡ old
  pub failed_only : IsErrOf result store.Failed → old.member.live ≡ false
  pub not_foreign : (place : ℕ) → IsErrOf result (store.Foreign place) → ⊥
  pub disk : old.member.live ≡ true → HasTried state continues old.member.frames
      (notes_of_step (node_rules hash accepts old) signed old event) result old.log new.log

-- A turn of a seat: a step of its node, with what that answered. Where no memory was left to answer
-- it twice, the answer is NoMemory and is lost; from then on each turn answers Failed and changes
-- nothing.
pub record IsSeatTurn {D A V : Type 0} (hash : List ℕ → Digest32)
    (accepts : A → Block → Block → Bool) (signs : V → ℕ → Vote → Bool) (state : D → DiskState)
    (continues : D → D → Type 0) (old : SeatState D A V) (event : Event)
    (reply : Result StepOut StoreError) (new : SeatState D A V) : Type 0 where
  pub verifier : new.verifier ≡ old.verifier
  pub step : old.lost ≡ false → new.lost ≡ false
      → IsStep hash accepts (signs old.verifier) state continues old.node event reply new.node
  pub loses : old.lost ≡ false → new.lost ≡ true → IsErrOf reply store.NoMemory
      × ((out : StepOut)
      × IsStep hash accepts (signs old.verifier) state continues old.node event (Ok out) new.node)
  pub lost : old.lost ≡ true → IsErrOf reply store.Failed
  pub lost_same : old.lost ≡ true → new ≡ old
