-- What the phases of a step leave.
use Rattle.std.specs.Prelude.{◌≡◌, ℕ, Bool, List, length}
use Rattle.cw_base.specs.declared.hash.Digest32.{Digest32}
use Rattle.cw_types.specs.Block.{Block}
use Rattle.cw_types.specs.declared.event.Event.{Event}
use Rattle.cw_types.specs.declared.note.Note.{Note}
use Rattle.cw_types.specs.declared.vote.Vote.{Vote}
use Rattle.cw_rules.specs.Accepted.{State}
use Rattle.cw_rules.specs.Notes.{epoch_of}
use Rattle.cw_rules.specs.Rules.{Rules}
use Rattle.cw_rules.specs.Step.{step_notes, taken, with_notes}
use Rattle.node.specs.Accepting.{brings_row}
use Rattle.node.specs.Holding.{Holding, own_state, rules_of}
use Rattle.node.specs.Leading.{lead_height}
use Rattle.node.specs.Noting.{with_all_staged}
use Rattle.node.specs.Standing.{OwesNoBlock, PartsStand}
use Rattle.node.specs.declared.act.Before.{Before}

-- who the node is
pub record IsSameHolder {D A : Type 0} (old new : Holding D A) : Type 0 where
  pub travel : new.travel ≡ old.travel
  pub id : new.id ≡ old.id
  pub epochs : new.epochs ≡ old.epochs
  pub backlog : new.backlog ≡ old.backlog
  pub app : new.app ≡ old.app

-- the notes of a step
abbrev pub notes_of_event : {D A : Type 0} → Rules → (ℕ → Vote → Bool) → Event → Holding D A
    → List Note
notes_of_event r signed e h = step_notes r h.id (taken r signed (own_state h) e) e

-- what the event brought is accepted, the notes of the step wait for a commit, and no block is owed
-- any more
pub record HasActed {D A : Type 0} (hash : List ℕ → Digest32) (accepts : A → Block → Block → Bool)
    (signed : ℕ → Vote → Bool) (e : Event) (old new : Holding D A) : Type 0 where
  pub stands : PartsStand hash accepts new
  pub state : own_state new
      ≡ with_notes (taken (rules_of hash accepts old) signed (own_state old) e)
      (notes_of_event (rules_of hash accepts old) signed e old)
  pub store : new.store ≡ with_all_staged old.store
      (notes_of_event (rules_of hash accepts old) signed e old)
  pub rests : OwesNoBlock (rules_of hash accepts new) (own_state new)

-- what a step has to know of the member before it
pub record IsBefore (r : Rules) (e : Event) (old : State) (before : Before) : Type 0 where
  pub notes : before.notes ≡ length old.notes
  pub epoch : before.epoch ≡ epoch_of old.notes
  pub height : before.height ≡ lead_height old
  pub brought : before.brought ≡ brings_row r old.came e
