-- A member's node, as the world sees it.
use Rattle.std.specs.Prelude.{[], ℕ, ◌≡◌, Bool, List, None, true}
use Rattle.cw_base.specs.declared.hash.Digest32.{Digest32}
use Rattle.cw_types.specs.declared.application.AcceptAll.{AcceptAll}
use Rattle.cw_types.specs.declared.event.Event.{Event}
use Rattle.cw_types.specs.declared.event.StepOut.{StepOut}
use Rattle.cw_types.specs.declared.note.Note.{Note}
use Rattle.cw_types.specs.declared.vote.Vote.{Vote}
use Rattle.cw_rules.specs.Rules.{Rules}
use Rattle.cw_rules.specs.Step.{Stepped, add_frame, start, step}
use Rattle.cw_rules_coded.specs.Coded.{ruled}
use Rattle.marshal.specs.Frames.{ReadBack, frame_bytes}
use Rattle.node.specs.State.{IsAtWork, NodeState, notes_of_step}
use Rattle.node_disk.specs.Log.{HasAppended, WasCutShort}
use Rattle.node_disk.specs.Memory.{Continues, MemoryState, memory_state, stop_from_now}

-- a node over a disk in memory, which accepts every block
abbrev pub MemoryNode : Type 0
MemoryNode = NodeState MemoryState AcceptAll

-- the rules that a node goes by
abbrev pub rules_by : (List ℕ → Digest32) → MemoryNode → Rules
rules_by hash m = ruled m.travel hash m.epochs m.backlog (λ b a. true)

-- the node takes events
abbrev pub Works : MemoryNode → Type 0
Works m = IsAtWork memory_state m

-- what a step gives, as the code has it
abbrev pub out_of : Stepped → StepOut
out_of done = record { sent = done.sent; handed = done.handed; tickets = done.tickets }

-- a start by these rules on a disk with these frames of notes
pub record HasStarted (r : Rules) (id : ℕ) (frames : List (List Note)) (disk : MemoryState)
    (new : MemoryNode) (out : StepOut) : Type 0 where
  pub rules : rules_by r.hash new ≡ r
  pub number : new.id ≡ id
  pub member : new.member ≡ (start r id frames).member
  pub gives : out ≡ out_of (start r id frames)
  pub works : Works new
  pub went_on : Continues disk new.log.disk

-- the step of the rules, whose notes are then on the disk as one frame
pub record HasStepped (r : Rules) (signed : ℕ → Vote → Bool) (e : Event) (old new : MemoryNode)
    (out : StepOut) : Type 0 where
  pub rules : rules_by r.hash new ≡ rules_by r.hash old
  pub id : new.id ≡ old.id
  pub member : new.member ≡ (step r old.id signed old.member e).member
  pub gives : out ≡ out_of (step r old.id signed old.member e)
  pub works : Works new
  pub appended : HasAppended memory_state Continues (frame_bytes (notes_of_step r signed old e))
      old.log new.log

-- The disk failed while the notes of the step were written. With them as one frame more the
-- member's frames read back
pub record WasStopped (r : Rules) (signed : ℕ → Vote → Bool) (e : Event)
    (old new : MemoryNode) : Type 0 where
  pub cut : WasCutShort memory_state Continues (frame_bytes (notes_of_step r signed old e))
      old.log
      new.log
  pub readable : ReadBack (add_frame old.member.frames (notes_of_step r signed old e))

-- the same with a stop at a device call from now
abbrev pub with_stop : ℕ → ℕ → ℕ → MemoryNode → MemoryNode
with_stop call cut fill s =
    record s {
      log =
          record s.log
          { disk = record s.log.disk { stop = stop_from_now s.log.disk call cut fill } };
    }
