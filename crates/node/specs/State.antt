-- A node, as every contract sees it.
use Rattle.std.specs.Prelude.{[], ◌≡◌, ℕ, Bool, List, false, map, true}
use Rattle.cw_base.specs.declared.hash.Digest32.{Digest32}
use Rattle.cw_types.specs.Block.{Block}
use Rattle.cw_types.specs.Epochs.{Epochs}
use Rattle.cw_types.specs.declared.event.Event.{Event}
use Rattle.cw_types.specs.declared.event.StepOut.{StepOut}
use Rattle.cw_types.specs.declared.note.Note.{Note}
use Rattle.cw_types.specs.declared.vote.Vote.{Vote}
use Rattle.cw_rules.specs.Rules.{Rules}
use Rattle.cw_rules.specs.Step.{Member, Stepped, state_of, step_notes, taken}
use Rattle.cw_rules.specs.declared.travel.Travel.{Travel}
use Rattle.cw_rules_coded.specs.Coded.{ruled}
use Rattle.marshal.specs.Frames.{FindsNotes, ReadBack, frame_bytes}
use Rattle.marshal.specs.Stored as marshal
use Rattle.node_disk.specs.Disk.{DiskState}
use Rattle.node_disk.specs.Frames.{Finds}
use Rattle.node_disk.specs.Images.{IsImage}
use Rattle.node_disk.specs.Log.{HasSettled, LogState}

-- how blocks travel, a member's number, the committees, the backlog, the application, the member
-- of the rules, live unless a step was refused, and the log of its notes
pub record NodeState (D A : Type 0) : Type 0 where
  pub travel : Travel
  pub id : ℕ
  pub epochs : Epochs
  pub backlog : ℕ
  pub app : A
  pub member : Member
  pub log : LogState D

-- the rules that a node follows, by how its blocks travel, its hasher and its application
abbrev pub node_rules : {D A : Type 0} → (List ℕ → Digest32) → (A → Block → Block → Bool)
    → NodeState D A → Rules
node_rules hash accepts node = ruled node.travel hash node.epochs node.backlog (accepts node.app)

-- the member that a step leaves, with what it answers
abbrev pub stepped : Member → StepOut → Stepped
stepped m out = record { member = m; sent = out.sent; handed = out.handed; tickets = out.tickets }

-- the notes that a step of the node writes
abbrev pub notes_of_step : {D A : Type 0} → Rules → (ℕ → Vote → Bool) → NodeState D A → Event
    → List Note
notes_of_step r signed node e = step_notes r node.id (taken r signed (state_of node.member) e) e

-- the node is the member of this number, with these committees, this backlog and this application
pub record IsNodeOf {D A : Type 0} (id : ℕ) (epochs : Epochs) (backlog : ℕ) (app : A)
    (node : NodeState D A) : Type 0 where
  pub number : node.id ≡ id
  pub committees : node.epochs ≡ epochs
  pub pending : node.backlog ≡ backlog
  pub application : node.app ≡ app

-- who the node is
pub record IsSameNode {D A : Type 0} (old new : NodeState D A) : Type 0 where
  pub travel : new.travel ≡ old.travel
  pub id : new.id ≡ old.id
  pub epochs : new.epochs ≡ old.epochs
  pub backlog : new.backlog ≡ old.backlog
  pub app : new.app ≡ old.app

-- The node takes events: its log is at rest on its disk, and holds the frames of its member's
-- notes, which read back; a crash leaves them.
pub record IsAtWork {D A : Type 0} (state : D → DiskState) (node : NodeState D A) : Type 0 where
  pub live : node.member.live ≡ true
  pub running : node.log.failed ≡ false
  pub frames : node.log.frames ≡ map frame_bytes node.member.frames
  pub readable : ReadBack node.member.frames
  pub settled : HasSettled node.log.frames node.log.gate (state node.log.disk).now
  pub found : Finds node.log.frames (state node.log.disk).now.seen
  pub on_disk : (image : List ℕ) → IsImage (state node.log.disk).now image
      → FindsNotes node.member.frames image

-- The marshal is that of the node: it has the node's committees and backlog, its notes and log,
-- what it handed out and its tickets, and nothing is staged.
pub record IsMarshalOf {D A : Type 0} (node : NodeState D A) (m : marshal.Stored D) : Type 0 where
  pub epochs : m.epochs ≡ node.epochs
  pub backlog : m.backlog ≡ node.backlog
  pub frames : m.frames ≡ node.member.frames
  pub staged : m.staged ≡ []
  pub given : m.given ≡ node.member.given
  pub tickets : m.tickets ≡ node.member.tickets
  pub log : marshal.marshal_log m ≡ node.log
