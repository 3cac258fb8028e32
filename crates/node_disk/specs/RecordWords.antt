-- What a log of records shows.
use Rattle.std.specs.Prelude.{◌≡◌, ℕ, List, Bool}
use Rattle.node_disk.specs.Log.{LogState, HasSettled}
use Rattle.node_disk.specs.Disk.{DiskState}
use Rattle.node_disk.specs.Frames.{frames_in}
use Rattle.node_disk.specs.declared.disk.Disk.{Ghosts}
use Rattle.node_disk.specs.declared.record_log.RecordLog.{RecordLog}

-- its frames, in order: so many of those on its disk
abbrev pub log_frames : {D : Type 0} {G : Ghosts D} → RecordLog D G → List (List ℕ)
log_frames {G = G} log = frames_in log.count (G.state log.disk).now.seen

-- the place of its last gate
abbrev pub log_gate : {D : Type 0} {G : Ghosts D} → RecordLog D G → ℕ
log_gate log = log.gate

-- its disk
abbrev pub log_disk : {D : Type 0} {G : Ghosts D} → RecordLog D G → D
log_disk log = log.disk

-- an earlier call left the disk in doubt
abbrev pub has_failed : {D : Type 0} {G : Ghosts D} → RecordLog D G → Bool
has_failed log = log.failed

-- the file is the log's frames and a closed gate, all of it on the disk
abbrev pub LogIsSettled : {D : Type 0} {G : Ghosts D} → (D → DiskState) → RecordLog D G → Type 0
LogIsSettled state log = HasSettled (log_frames log) log.gate (state log.disk).now

-- all that a log shows
abbrev pub log_state : {D : Type 0} {G : Ghosts D} → RecordLog D G → LogState D
log_state log =
    record { frames = log_frames log; gate = log.gate; failed = log.failed; disk = log.disk }

-- nothing of the log changed
pub record IsUnchanged {D : Type 0} {G : Ghosts D} (old new : RecordLog D G) : Type 0 where
  pub frames : log_frames new ≡ log_frames old
  pub gate : log_gate new ≡ log_gate old
  pub failed : has_failed new ≡ has_failed old
  pub disk : log_disk new ≡ log_disk old
