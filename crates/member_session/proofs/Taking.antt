-- A node whose device calls were told.
use Rattle.std.proofs.Common.{◌≡◌, ◌∙◌, ◌++◌, [], List, Some, ap, append_assoc, refl, subst, sym, true}
use Rattle.std.proofs.lemmas.List.{append-nil}
use Rattle.cw_types.specs.Epochs.{Epochs}
use Rattle.cw_types.specs.declared.note.Note.{Note}
use Rattle.cw_rules.specs.Step.{member_notes}
use Rattle.cw_rules.specs.declared.travel.Travel.{Travel}
use Rattle.marshal.specs.Frames.{frame_bytes}
use Rattle.marshal.specs.Stored.{Stored, join_frames, notes_of}
use Rattle.node.specs.State.{IsAtWork, IsMarshalOf, IsSameNode, NodeState}
use Rattle.node_disk.specs.Disk.{DeviceCall, HasTold}
use Rattle.node_disk.specs.Frames.{blocks}
use Rattle.node_disk.specs.Host.{HostState, host_state}
use Rattle.node_disk.specs.Memory.{MemoryState, memory_state}
use Rattle.member_session.specs.Serving.{IsServing}

-- the same node, none of whose device calls waits
abbrev pub told_node : {A : Type 0} → NodeState (HostState MemoryState) A
    → NodeState (HostState MemoryState) A
told_node n =
    record n { log = record n.log { disk = record n.log.disk { waiting = [] } } }

pub serves_told : {A : Type 0} (travel : Travel) (epochs : Epochs)
    (n : NodeState (HostState MemoryState) A)
    → n.travel ≡ travel → n.epochs ≡ epochs → IsAtWork (host_state memory_state) n
    → IsServing travel epochs (told_node n)
serves_told travel epochs n travels among w = record {
  travels = travels;
  among = among;
  works =
      record {
        live = w.live;
        running = w.running;
        frames = w.frames;
        readable = w.readable;
        settled = record { file = w.settled.file; durable = w.settled.durable };
        found = w.found;
        on_disk = w.on_disk;
      };
  told = refl;
}

-- where none waited, those wait that were made since
pub waits_told : (old new : HostState MemoryState) (calls : List DeviceCall)
    → old.waiting ≡ []
    → HasTold calls (host_state memory_state old) (host_state memory_state new)
    → new.waiting ≡ calls
waits_told old new calls none told =
    let more : Some new.waiting ≡ Some (old.waiting ++ calls) = told in
    let all : new.waiting ≡ old.waiting ++ calls = cc in
    all ∙ ap (λ (l : List DeviceCall). l ++ calls) none

-- the notes of a node's marshal are those of its member
pub notes_told : {D A : Type 0} (node : NodeState D A) (m : Stored D) → IsMarshalOf node m
    → notes_of m ≡ member_notes node.member
notes_told node m is =
    ap (λ (l : List Note). join_frames m.frames ++ l) is.staged
    ∙ append-nil (join_frames m.frames)
    ∙ ap (λ (l : List (List Note)). join_frames l) is.frames

-- a node behind a step, whose device calls were told
pub serves_on : {A : Type 0} (travel : Travel) (epochs : Epochs)
    (old new left : NodeState (HostState MemoryState) A)
    → IsServing travel epochs old → IsSameNode old new
    → IsAtWork (host_state memory_state) new → left ≡ told_node new
    → IsServing travel epochs left
serves_on {A} travel epochs old new left serves same works is =
    let P : NodeState (HostState MemoryState) A → Type 0 = λ n. IsServing travel epochs n in
    subst P (sym is)
    (serves_told travel epochs new (same.travel ∙ serves.travels) (same.epochs ∙ serves.among)
    works)

-- and one behind a start
pub serves_first : {A : Type 0} (travel : Travel) (epochs : Epochs)
    (new left : NodeState (HostState MemoryState) A)
    → new.travel ≡ travel → new.epochs ≡ epochs
    → IsAtWork (host_state memory_state) new → left ≡ told_node new
    → IsServing travel epochs left
serves_first {A} travel epochs new left travels among works is =
    let P : NodeState (HostState MemoryState) A → Type 0 = λ n. IsServing travel epochs n in
    subst P (sym is) (serves_told travel epochs new travels among works)
