-- What is told of a start and of a step is what the rules give.
use Rattle.std.proofs.Common.{subst, ◌≡◌, ◌∙◌, ◌++◌, [], Bool, Err, List, Ok, Result, ap, append_assoc, length, map, sym, ℕ}
use Rattle.cw_base.specs.declared.hash.Digest32.{Digest32}
use Rattle.cw_types.specs.Epochs.{Epochs}
use Rattle.cw_types.specs.declared.event.Event.{Event}
use Rattle.cw_types.specs.declared.event.StepOut.{StepOut}
use Rattle.cw_types.specs.declared.note.Note.{Note}
use Rattle.cw_types.specs.declared.vote.Vote.{Vote}
use Rattle.cw_rules.specs.Rules.{Rules}
use Rattle.cw_rules.specs.Step.{Member, Stepped, member_notes, start, step}
use Rattle.cw_rules.specs.declared.travel.Travel.{Travel}
use Rattle.marshal.specs.Frames.{frame_bytes, read_frames}
use Rattle.node.specs.Disks.{HasFound}
use Rattle.node.specs.Lives.{Turn}
use Rattle.node.specs.State.{IsAtWork, IsNodeOf, IsSameNode, NodeState, stepped}
use Rattle.node_disk.specs.Disk.{DeviceCall}
use Rattle.node_disk.specs.Frames.{blocks}
use Rattle.node_disk.specs.Host.{HostState, host_state}
use Rattle.node_disk.specs.Log.{HasAppended, calls_of_append, start_calls}
use Rattle.node_disk.specs.Memory.{MemoryState, memory_state}
use Rattle.member_lines.specs.Answers.{no_line, ok_line}
use Rattle.member_lines.specs.declared.line.HostLine.TheVariants.{Start}
use Rattle.member_lines.specs.declared.refusal.Refusal.TheVariants.{Foreign}
use Rattle.member_session.specs.Serving.{IsServing, Prepared, Serving, accepting, serving_of, serving_rules}
use Rattle.member_session.specs.Talk.{Answers, answered_open, answered_start, started}
use Rattle.member_session.specs.Told.{Begins, Turns, given_text, moved_from, moved_text, epoch_and_view, start_text, turn_calls, turn_notes, turn_text, view_line}
use Rattle.member_session.specs.declared.session.Session.{Session}
use Rattle.member_session.specs.declared.session.Session.TheVariants as stage
use Rattle.member_session.proofs.Behind.{moved_on, same_five, same_serving, same_three, same_two}
use Rattle.member_session.proofs.Taking.{told_node, waits_told}

abbrev Node : Type 0 → Type 0
Node A = NodeState (HostState MemoryState) A

module _ (hash : List ℕ → Digest32) (travel : Travel) where
  pub turned : {A : Type 0} (continues : HostState MemoryState → HostState MemoryState → Type 0)
      (epochs : Epochs) (old new left : Node A) (signed : ℕ → Vote → Bool) (event : Event)
      (out : StepOut) (place : ℕ × ℕ) (before after : List ℕ)
      → IsServing travel epochs old → IsSameNode old new
      → stepped new.member out
      ≡ step (accepting hash old.travel old.epochs old.backlog) old.id signed old.member event
      → HasAppended (host_state memory_state) continues
      (frame_bytes (turn_notes (accepting hash old.travel old.epochs old.backlog) old.id old.member
      (record { signed = signed; event = event })))
      old.log new.log
      → place ≡ epoch_and_view (member_notes old.member)
      → after
      ≡ (before
      ++ given_text (serving_rules hash new.travel (serving_of new)) new.log.disk.waiting
      (stepped new.member out))
      ++ moved_from place epochs (member_notes new.member)
      → left ≡ told_node new
      → Turns (serving_rules hash travel (serving_of old)) (serving_of old)
      (record { signed = signed; event = event }) before after (serving_of left)
  turned {A} continues epochs old new left signed event out place before after serves same steps
      appended is_place tells is =
      let turn : Turn = record { signed = signed; event = event } in
      let r : Rules = accepting hash travel old.epochs old.backlog in
      let ruled : Stepped = step r old.id signed old.member event in
      let goes : stepped new.member out ≡ ruled =
      steps
      ∙ ap (λ (t : Travel). step (accepting hash t old.epochs old.backlog) old.id signed old.member event)
      serves.travels in
      let gate : old.log.gate ≡ length (blocks (map frame_bytes old.member.frames)) =
      appended.before.file.place ∙ ap (λ (l : List (List ℕ)). length (blocks l)) serves.works.frames in
      let calls : new.log.disk.waiting ≡ turn_calls r old.id old.member turn =
      waits_told old.log.disk new.log.disk
      (calls_of_append old.log.gate
      (frame_bytes (turn_notes (accepting hash old.travel old.epochs old.backlog) old.id old.member
      turn)))
      serves.told appended.calls
      ∙ same_two
      (λ (g : ℕ) (t : Travel). calls_of_append g
      (frame_bytes (turn_notes (accepting hash t old.epochs old.backlog) old.id old.member turn)))
      old.log.gate (length (blocks (map frame_bytes old.member.frames))) old.travel travel gate
      serves.travels in
      record {
        member =
            ap (λ (n : Node A). serving_of n) is
            ∙ same_serving new.id old.id new.epochs old.epochs new.backlog old.backlog new.member
            ruled.member same.id same.epochs same.backlog (ap (λ (s : Stepped). s.member) goes);
        told =
            moved_on before
            (given_text (serving_rules hash new.travel (serving_of new)) new.log.disk.waiting
            (stepped new.member out))
            (moved_from place epochs (member_notes new.member))
            (given_text r (turn_calls r old.id old.member turn) ruled)
            (moved_text old.epochs (member_notes old.member) (member_notes ruled.member))
            after tells
            (same_five
            (λ (t : Travel) (x : Epochs) (b : ℕ) (l : List DeviceCall) (s : Stepped).
            given_text (accepting hash t x b) l s)
            new.travel travel new.epochs old.epochs new.backlog old.backlog new.log.disk.waiting
            (turn_calls r old.id old.member turn) (stepped new.member out) ruled
            (same.travel ∙ serves.travels) same.epochs same.backlog calls goes)
            (same_three
            (λ (p : ℕ × ℕ) (x : Epochs) (s : Stepped). moved_from p x (member_notes s.member))
            place (epoch_and_view (member_notes old.member)) epochs old.epochs (stepped new.member out)
            ruled is_place (sym serves.among) goes);
      }
