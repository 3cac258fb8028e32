-- What a start and a step of a node do to its disk.
use Rattle.std.specs.Prelude.{◌≡◌, ℕ, ◌≤◌, ◌⊎◌, ◌∷◌, [], true, Err, List, Result, IsErrOf, OnOk}
use Rattle.cw_base.specs.Causes.{Rose}
use Rattle.cw_types.specs.declared.note.Note.{Note}
use Rattle.cw_rules.specs.Step.{add_frame}
use Rattle.marshal.specs.Frames.{FindsAllOrNone, FindsNotes, IsBeforeOrNotes, ReadBack, frame_bytes, read_frames}
use Rattle.node_disk.specs.Disk.{DiskState, HasTold, IsCutShort, IsFront, LeavesOnly, Synced}
use Rattle.node_disk.specs.Log.{HasAppended, LogState, WasCutShort, calls_of_append, start_calls}
use Rattle.node_disk.specs.declared.log.StoreError.{StoreError}
use Rattle.node_disk.specs.declared.log.StoreError.TheVariants as store

-- A start that found these frames of notes on this disk: a crash at any moment of it left what
-- could be left before, or bytes on which a start finds the same; and the device calls are those of
-- the start of a log.
pub record HasFound {D : Type 0} (state : D → DiskState) (continues : D → D → Type 0)
    (frames : List (List Note)) (old new : D) : Type 0 where
  pub found : FindsNotes frames (state old).now.seen
  pub any_moment : LeavesOnly (state old) (state new) (IsBeforeOrNotes (state old).now)
  pub calls : HasTold (start_calls (state old).now.seen) (state old) (state new)
  pub faults : (state old).faults ≤ (state new).faults
  pub goes_on : continues old new

-- A start on this disk that was refused, and what it hands back: a crash at any moment of it left
-- what could be left before, or bytes on which a start finds the same; it is foreign where the
-- bytes aren't frames of notes, and stays so; the device calls are those of the start of a log, up
-- to one that failed, up to where memory was refused, or the first alone where the read behind it
-- failed; and a fault is told only where the disk counted it.
pub record WasRefused {D : Type 0} (state : D → DiskState) (continues : D → D → Type 0)
    (error : StoreError) (old new : D) : Type 0 where
  pub any_moment : LeavesOnly (state old) (state new) (IsBeforeOrNotes (state old).now)
  pub foreign : (place : ℕ) → error ≡ store.Foreign place → read_frames (state old).now.seen
      ≡ Err place
  pub foreign_again : (place : ℕ) → error ≡ store.Foreign place → read_frames (state new).now.seen
      ≡ Err place
  pub calls_foreign : (place : ℕ) → error ≡ store.Foreign place
      → HasTold (start_calls (state old).now.seen) (state old) (state new)
  pub calls_failed : error ≡ store.Disk
      → IsCutShort (start_calls (state old).now.seen) (state old) (state new)
      ⊎ HasTold (Synced true ∷ []) (state old) (state new)
  pub calls_no_memory : error ≡ store.NoMemory
      → IsFront (start_calls (state old).now.seen) (state old) (state new)
  pub cause : error ≡ store.Disk → Rose (state old).faults (state new).faults
  pub faults : (state old).faults ≤ (state new).faults
  pub goes_on : continues old new

-- What a call that was to append these notes to these frames did, whatever it answered: a crash at
-- any moment of it left the frames from before it, with these notes as one frame more or without;
-- the device calls were those of one append, up to one that failed, or up to where memory was
-- refused; the notes that were written read back; and a fault is told only where the disk counted
-- it.
pub record HasTried {D : Type 0} {X : Type 0} (state : D → DiskState) (continues : D → D → Type 0)
    (frames : List (List Note)) (notes : List Note) (result : Result X StoreError)
    (old new : LogState D) : Type 0 where
  pub any_moment : LeavesOnly (state old.disk) (state new.disk) (FindsAllOrNone frames notes)
  pub appended : OnOk result (HasAppended state continues (frame_bytes notes) old new)
  pub readable : OnOk result (ReadBack (add_frame frames notes))
  pub cut_short : IsErrOf result store.Disk
      → WasCutShort state continues (frame_bytes notes) old new
  pub cut_readable : IsErrOf result store.Disk → ReadBack (add_frame frames notes)
  pub refused : IsErrOf result store.NoMemory
      → IsFront (calls_of_append old.gate (frame_bytes notes)) (state old.disk) (state new.disk)
  pub cause : IsErrOf result store.Disk → Rose (state old.disk).faults (state new.disk).faults
  pub faults : (state old.disk).faults ≤ (state new.disk).faults
  pub goes_on : continues old.disk new.disk
