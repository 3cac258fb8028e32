-- What is told of a start and of a step.
use Rattle.std.specs.Prelude.{[], List, Ok, ℕ, ◌&&◌, ◌++◌, ◌==◌, ◌≡◌, Bool, if◌then◌else◌, length, map}
use Rattle.std.specs.List.{flat_map}
use Rattle.std.specs.Option.{option_map_or}
use Rattle.cw_base.specs.declared.hash.Digest32.{Digest32}
use Rattle.cw_types.specs.Epochs.{Epochs, leader}
use Rattle.cw_types.specs.declared.event.Handed.{Handed}
use Rattle.cw_types.specs.declared.event.StepOut.{StepOut}
use Rattle.cw_types.specs.declared.note.Note.{Note}
use Rattle.cw_rules.specs.Held.{held}
use Rattle.cw_rules.specs.Notes.{epoch_of, view_of}
use Rattle.cw_rules.specs.Rules.{Rules}
use Rattle.cw_rules.specs.Step.{Member, Stepped, member_notes, start, state_of, step, step_notes, taken}
use Rattle.cw_rules.specs.declared.travel.Travel.{Travel}
use Rattle.marshal.specs.Frames.{frame_bytes, read_frames}
use Rattle.node.specs.Lives.{Turn}
use Rattle.node.specs.State.{IsAtWork, NodeState, stepped}
use Rattle.node_disk.specs.Disk.{DeviceCall, Synced, Wrote}
use Rattle.node_disk.specs.Frames.{blocks}
use Rattle.node_disk.specs.Host.{HostState, host_state}
use Rattle.node_disk.specs.Log.{calls_of_append, start_calls}
use Rattle.node_disk.specs.Memory.{MemoryState, memory_state}
use Rattle.member_session.specs.Serving.{Prepared, Serving, accepting}
use Rattle.member_lines.specs.Answers.{handed_out_line, place_line, send_line, sync_line, ticket_line, write_line}

-- what the host has to do to the file
abbrev pub call_line : DeviceCall → List ℕ
call_line (Wrote place bytes done) = write_line place bytes
call_line (Synced done) = sync_line

-- a block that is handed out is held: by the rules there is always one
abbrev pub hand_out_line : Rules → List Note → Handed → List ℕ
hand_out_line r notes h =
    option_map_or (λ b. handed_out_line h b.payload) (held r notes h.commitment) []

-- where a member with these notes stands, and who leads there
abbrev pub view_line : Epochs → List Note → List ℕ
view_line x notes =
    let epoch = epoch_of notes in
    let view = view_of notes epoch in
    place_line epoch view (leader x epoch view)

-- the device calls first; then what is sent, what is handed out, and the tickets
abbrev pub given_text : Rules → List DeviceCall → Stepped → List ℕ
given_text r calls s =
    flat_map call_line calls
    ++ (flat_map send_line s.sent
    ++ (flat_map (hand_out_line r (member_notes s.member)) s.handed
    ++ flat_map ticket_line s.tickets))

-- a start on a file with these bytes, which are these frames of notes
abbrev pub start_text : Rules → ℕ → List ℕ → List (List Note) → List ℕ
start_text r id bytes frames =
    let s = start r id frames in
    given_text r (start_calls bytes) s ++ view_line r.epochs (member_notes s.member)

-- the epoch and the view that a member with these notes is in
abbrev pub epoch_and_view : List Note → ℕ × ℕ
epoch_and_view notes = (epoch_of notes, view_of notes (epoch_of notes))

-- they are these
abbrev pub is_place : ℕ × ℕ → List Note → Bool
is_place place notes = (place.0 == epoch_of notes) && (place.1 == view_of notes (epoch_of notes))

-- where a member with these notes came to, unless it is this epoch and this view
abbrev pub moved_from : ℕ × ℕ → Epochs → List Note → List ℕ
moved_from place x notes = if is_place place notes then [] else view_line x notes

-- where the member came to, if it moved
abbrev pub moved_text : Epochs → List Note → List Note → List ℕ
moved_text x before after = moved_from (epoch_and_view before) x after

-- the notes that a step writes
abbrev pub turn_notes : Rules → ℕ → Member → Turn → List Note
turn_notes r id m t = step_notes r id (taken r t.signed (state_of m) t.event) t.event

-- the place of the last gate of a file of these frames
abbrev pub gate_of : List (List Note) → ℕ
gate_of frames = length (blocks (map frame_bytes frames))

-- the device calls of a step: those of one append of its notes
abbrev pub turn_calls : Rules → ℕ → Member → Turn → List DeviceCall
turn_calls r id m t = calls_of_append (gate_of m.frames) (frame_bytes (turn_notes r id m t))

-- a step of the member
abbrev pub turn_text : Rules → ℕ → Member → Turn → List ℕ
turn_text r id m t =
    let s = step r id t.signed m t.event in
    given_text r (turn_calls r id m t) s
    ++ moved_text r.epochs (member_notes m) (member_notes s.member)

-- a step left the member so, and what it gave was told behind what was told before
pub record Turns (r : Rules) (s : Serving) (t : Turn) (before after : List ℕ) (left : Serving)
    : Type 0 where
  pub member : left ≡ record s { member = (step r s.id t.signed s.member t.event).member }
  pub told : after ≡ before ++ turn_text r s.id s.member t

-- A node that started on the file of this one, and what its start gave: the rules' start on the
-- frames that the file is. It is at work, and the device calls of the start wait.
pub record Begins {A : Type 0} (hash : List ℕ → Digest32) (travel : Travel) (o : Prepared)
    (node : NodeState (HostState MemoryState) A) (out : StepOut) : Type 0 where
  pub reads : read_frames o.file ≡ Ok node.member.frames
  pub travels : node.travel ≡ travel
  pub number : node.id ≡ o.id
  pub among : node.epochs ≡ o.epochs
  pub pending : node.backlog ≡ o.backlog
  pub starts : stepped node.member out
      ≡ start (accepting hash travel o.epochs o.backlog) o.id node.member.frames
  pub calls : node.log.disk.waiting ≡ start_calls o.file
  pub works : IsAtWork (host_state memory_state) node
