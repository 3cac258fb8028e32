-- What a start leaves and tells is what the rules give.
use Rattle.std.proofs.Common.{subst, ◌≡◌, ◌∙◌, ◌++◌, ◌∷◌, [], append-nil, drop, suc, take, zero, ◌+◌, Bool, Err, List, Ok, Result, ap, append_assoc, length, map, sym, ℕ}
use Rattle.cw_base.specs.declared.hash.Digest32.{Digest32}
use Rattle.cw_types.specs.Epochs.{Epochs}
use Rattle.cw_types.specs.declared.event.Event.{Event}
use Rattle.cw_types.specs.declared.event.StepOut.{StepOut}
use Rattle.cw_types.specs.declared.note.Note.{Note}
use Rattle.cw_types.specs.declared.vote.Vote.{Vote}
use Rattle.cw_rules.specs.Rules.{Rules}
use Rattle.cw_rules.specs.Step.{Member, Stepped, member_notes, start, step}
use Rattle.cw_rules.specs.declared.travel.Travel.{Travel}
use Rattle.marshal.specs.Frames.{frame_bytes, read_frames}
use Rattle.node.specs.Disks.{HasFound}
use Rattle.node.specs.Lives.{Turn}
use Rattle.node.specs.State.{IsAtWork, IsNodeOf, IsSameNode, NodeState, stepped}
use Rattle.node_disk.specs.Disk.{DeviceCall, put_at}
use Rattle.node_disk.specs.Frames.{blocks}
use Rattle.node_disk.specs.Host.{HostState, host_state}
use Rattle.node_disk.specs.Log.{HasAppended, calls_of_append, start_calls}
use Rattle.node_disk.specs.Memory.{MemoryState, memory_state}
use Rattle.member_lines.specs.Answers.{no_line, ok_line}
use Rattle.member_lines.specs.declared.line.HostLine.TheVariants.{Start}
use Rattle.member_lines.specs.declared.refusal.Refusal.TheVariants.{Foreign}
use Rattle.member_session.specs.Serving.{IsServing, Prepared, Serving, accepting, serving_of, serving_rules}
use Rattle.member_session.specs.Talk.{Answers, answered_open, answered_start, started}
use Rattle.member_session.specs.Told.{Begins, Turns, given_text, moved_from, moved_text, epoch_and_view, start_text, turn_calls, turn_notes, turn_text, view_line}
use Rattle.member_session.specs.declared.session.Session.{Session}
use Rattle.member_session.specs.declared.session.Session.TheVariants as stage
use Rattle.member_session.proofs.Behind.{ended, same_four, same_serving, same_three}
use Rattle.member_session.proofs.Taking.{waits_told}

abbrev nothing : List ℕ
nothing = []

put_nothing : (file : List ℕ) (n : ℕ) → take 0 nothing ++ file ++ drop n nothing ≡ file
put_nothing file zero = append-nil file
put_nothing file (suc n) = append-nil file

-- bytes that are written to an empty file
pub put_first : (old file : List ℕ) → old ≡ [] → put_at old 0 file ≡ file
put_first [] file none = put_nothing file (0 + length file)
put_first (x ∷ old) file none = cc

abbrev Node : Type 0 → Type 0
Node A = NodeState (HostState MemoryState) A

module _ (hash : List ℕ → Digest32) (travel : Travel) where
  pub begins : {A : Type 0} (continues : HostState MemoryState → HostState MemoryState → Type 0)
      (app : A) (o : Prepared) (node : Node A) (disk : HostState MemoryState) (out : StepOut)
      → IsNodeOf o.id o.epochs o.backlog app node → node.travel ≡ travel
      → stepped node.member out
      ≡ start (accepting hash node.travel node.epochs node.backlog) o.id node.member.frames
      → IsAtWork (host_state memory_state) node
      → HasFound (host_state memory_state) continues node.member.frames disk node.log.disk
      → disk.waiting ≡ [] → (memory_state disk.inner).now.seen ≡ o.file
      → Begins hash travel o node out
  begins continues app o node disk out is way starts works found none seen = record {
    reads = ap read_frames (sym seen) ∙ found.found;
    travels = way;
    number = is.number;
    among = is.committees;
    pending = is.pending;
    starts =
        starts
        ∙ same_three
        (λ (t : Travel) (x : Epochs) (b : ℕ).
        start (accepting hash t x b) o.id node.member.frames)
        node.travel travel node.epochs o.epochs node.backlog o.backlog way is.committees is.pending;
    calls =
        waits_told disk node.log.disk (start_calls (memory_state disk.inner).now.seen) none found.calls
        ∙ ap start_calls seen;
    works = works;
  }

  pub started_answer : {A : Type 0} (o : Prepared) (node : Node A) (out : StepOut)
      (before told after : List ℕ) (left : Session Serving)
      → Begins hash travel o node out
      → told
      ≡ (before
      ++ given_text (serving_rules hash travel (serving_of node)) node.log.disk.waiting
      (stepped node.member out))
      ++ view_line node.epochs (member_notes node.member)
      → left ≡ stage.Running (serving_of node) → after ≡ told ++ ok_line
      → Answers (answered_open hash travel o Start) before after left
  started_answer o node out before told after left b tells goes ends =
      let frames : List (List Note) = node.member.frames in
      let ruled : Stepped = start (accepting hash travel o.epochs o.backlog) o.id frames in
      subst (λ (r : Result (List (List Note)) ℕ).
      Answers (answered_start hash travel o r) before after left)
      (sym b.reads)
      (record {
        left =
            goes
            ∙ ap (λ (s : Serving). stage.Running s)
            (same_serving node.id o.id node.epochs o.epochs node.backlog o.backlog node.member
            ruled.member b.number b.among b.pending (ap (λ (s : Stepped). s.member) b.starts));
        told =
            ended before
            (given_text (serving_rules hash travel (serving_of node)) node.log.disk.waiting
            (stepped node.member out))
            (view_line node.epochs (member_notes node.member))
            told
            (start_text (accepting hash travel o.epochs o.backlog) o.id o.file frames) ok_line after
            tells
            (same_four
            (λ (x : Epochs) (k : ℕ) (l : List DeviceCall) (s : Stepped).
            given_text (accepting hash travel x k) l s ++ view_line x (member_notes s.member))
            node.epochs o.epochs node.backlog o.backlog node.log.disk.waiting (start_calls o.file)
            (stepped node.member out) ruled b.among b.pending b.calls b.starts)
            ends;
      })

  -- a file that isn't a member's changes nothing
  pub foreign_answer : (o : Prepared) (place : ℕ) (before after : List ℕ) (left : Session Serving)
      → read_frames o.file ≡ Err place → left ≡ stage.Opening o
      → after ≡ before ++ no_line (Foreign place)
      → Answers (answered_open hash travel o Start) before after left
  foreign_answer o place before after left reads goes ends =
      subst (λ (r : Result (List (List Note)) ℕ).
      Answers (answered_start hash travel o r) before after left)
      (sym reads) (record { left = goes; told = ends })
