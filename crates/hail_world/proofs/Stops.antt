-- A disk that is armed, and the place of a member that it stopped.
use Rattle.std.proofs.Common.{◌≡◌, ℕ, ◌<◌, false, true, List, Ok, Err, Result, Some, Option, refl, sym, ap, ◌∙◌}
use Rattle.std.specs.List.{flat_map}
use Rattle.cw_types.specs.declared.note.Note.{Note}
use Rattle.cw_rules.specs.Step.{Member, Stepped, member_notes}
use Rattle.node_disk.specs.Cut.{IsArmed}
use Rattle.node_disk.specs.Memory.{MemoryState, is_calm, memory_state, reopened_disk}
use Rattle.node_disk.specs.MemoryLaws.{calm_failing}
use Rattle.hail_world.specs.declared.place.Place.{Place}
use Rattle.hail_world.specs.declared.place.Place.TheVariants as place
use Rattle.marshal.specs.Frames.{FindsNotes, read_frames}
use Rattle.marshal.specs.Stored.{join_frames, joined_notes, read_notes}
use Rattle.hail_world.specs.Places.{SitsAs, IsPutOut}
use Rattle.hail_world.specs.MemoryNodes.{MemoryNode, with_stop}

pub armed : (s : MemoryNode) (call cut fill : ℕ) → is_calm s.log.disk ≡ true → 0 < call
    → IsArmed call cut fill (with_stop call cut fill s).log.disk
armed s call cut fill calm low =
    record { stop = refl; later = low; failing = calm_failing s.log.disk calm }

-- a stopped place is that of the member whose frames are on its disk
pub is_member : (disk : MemoryState) (p : Place MemoryNode) (x : Member) → IsPutOut disk p
    → FindsNotes x.frames (memory_state disk).now.seen → x.live ≡ false → SitsAs p (Some x)
is_member disk place.Faulty x h held stopped = absurd h
is_member disk (place.Live m) x h held stopped = absurd h
is_member disk (place.Stopped again notes) x h held stopped =
    let there : FindsNotes x.frames (memory_state again).now.seen = ap read_frames h.1 ∙ held in
    let same : h.2.0 ≡ x.frames = (let e : Ok h.2.0 ≡ Ok x.frames = sym h.2.1 ∙ there in cc) in
    (stopped, there, h.2.2 ∙ ap (λ (f : List (List Note)). flat_map (λ frame. frame) f) same)

-- a disk that holds frames of notes, reopened, with the notes that are read on it
pub rests : (disk again : MemoryState) (notes : List Note) (frames : List (List Note))
    → FindsNotes frames (memory_state disk).now.seen → again ≡ reopened_disk disk
    → (memory_state again).now.seen ≡ (memory_state disk).now.seen
    → read_notes (memory_state again).now.seen ≡ Ok notes
    → IsPutOut disk (place.Stopped again notes)
rests disk again notes frames held is seen read =
    let there : FindsNotes frames (memory_state again).now.seen = ap read_frames seen ∙ held in
    let same : Ok (join_frames frames) ≡ Ok notes = sym (ap joined_notes there) ∙ read in
    (is, seen, (frames, there, (let e : notes ≡ join_frames frames = cc in e)))

-- such a disk isn't foreign
pub not_foreign : (disk again : MemoryState) (place : ℕ) (frames : List (List Note))
    → FindsNotes frames (memory_state disk).now.seen
    → (memory_state again).now.seen ≡ (memory_state disk).now.seen
    → read_notes (memory_state again).now.seen ≡ Err place → ⊥
not_foreign disk again place frames held seen read =
    let there : FindsNotes frames (memory_state again).now.seen = ap read_frames seen ∙ held in
    let no : Ok (join_frames frames) ≡ Err place = sym (ap joined_notes there) ∙ read in
    cc
