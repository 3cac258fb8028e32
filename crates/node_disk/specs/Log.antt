-- The log over a disk.
use Rattle.std.specs.Prelude.{◌≡◌, ◌⊎◌, ℕ, ◌+◌, ◌^◌, ◌<◌, List, [], ◌∷◌, ◌++◌, length, map, Vec, Bool, true}
use Rattle.std.specs.declared.alloc.Global.{Global}
use Rattle.node_disk.specs.Images.{Moment, IsImage, IsDurable}
use Rattle.node_disk.specs.Disk.{DiskState, DeviceCall, Wrote, Synced, HasTold, IsCutShort}
use Rattle.node_disk.specs.Frames.{IsAtRest, ReadsSame, body}

-- the bytes of each
abbrev pub all_items : List (Vec ℕ Global) → List (List ℕ)
all_items frames = map (λ (v : Vec ℕ Global). v.items) frames

-- the file is these frames and a closed gate, all of it on the disk
pub record HasSettled (frames : List (List ℕ)) (gate : ℕ) (moment : Moment) : Type 0 where
  pub file : IsAtRest frames gate moment.seen
  pub durable : IsDurable moment

-- a write and a sync
abbrev pub write_then_sync : ℕ → List ℕ → List DeviceCall
write_then_sync place bytes = Wrote place bytes true ∷ Synced true ∷ []

-- the four device calls of an append: the frame and a closed gate behind the last gate, and then
-- that gate is opened
abbrev pub append_calls : ℕ → List ℕ → List DeviceCall
append_calls gate frame =
    write_then_sync (gate + 1) (body frame ++ 0 ∷ []) ++ write_then_sync gate (1 ∷ [])

-- the frames, and this one behind them, if it isn't empty
abbrev pub with_frame : List (List ℕ) → List ℕ → List (List ℕ)
with_frame frames [] = frames
with_frame frames (byte ∷ bytes) = frames ++ (byte ∷ bytes) ∷ []

-- the device calls of an append of a frame
abbrev pub calls_of_append : ℕ → List ℕ → List DeviceCall
calls_of_append gate [] = []
calls_of_append gate (byte ∷ bytes) = append_calls gate (byte ∷ bytes)

-- an image that could be left before, or one on which a start finds what it finds on what a read
-- gave then
abbrev pub IsBeforeOrSame : Moment → List ℕ → Type 0
IsBeforeOrSame moment image = IsImage moment image ⊎ ReadsSame moment.seen image

-- a start writes a closed gate where the file is shorter than two bytes
abbrev pub first_gate : List ℕ → List DeviceCall
first_gate [] = write_then_sync 0 (0 ∷ [])
first_gate (byte ∷ []) = write_then_sync 0 (0 ∷ [])
first_gate (byte ∷ second ∷ bytes) = []

-- the device calls of a start on these bytes
abbrev pub start_calls : List ℕ → List DeviceCall
start_calls bytes = Synced true ∷ first_gate bytes

-- what a log shows: its frames, the place of its last gate, whether an earlier call left the disk
-- in doubt, and its disk
pub record LogState (D : Type 0) : Type 0 where
  pub frames : List (List ℕ)
  pub gate : ℕ
  pub failed : Bool
  pub disk : D

-- An append of this frame that succeeded: the frame stands behind the others, the file is at rest
-- before and after, and the disk went on by the device calls of the append.
pub record HasAppended {D : Type 0} (state : D → DiskState) (continues : D → D → Type 0)
    (frame : List ℕ) (old new : LogState D) : Type 0 where
  pub frames : new.frames ≡ with_frame old.frames frame
  pub before : HasSettled old.frames old.gate (state old.disk).now
  pub after : HasSettled new.frames new.gate (state new.disk).now
  pub calls : HasTold (calls_of_append old.gate frame) (state old.disk) (state new.disk)
  pub short : length frame < 2 ^ 64
  pub disk : continues old.disk new.disk

-- An append of this frame that the disk cut short: the file was at rest before, and the disk went
-- on by the device calls of the append up to one that failed.
pub record WasCutShort {D : Type 0} (state : D → DiskState) (continues : D → D → Type 0)
    (frame : List ℕ) (old new : LogState D) : Type 0 where
  pub frames : new.frames ≡ old.frames
  pub before : HasSettled old.frames old.gate (state old.disk).now
  pub calls : IsCutShort (calls_of_append old.gate frame) (state old.disk) (state new.disk)
  pub short : length frame < 2 ^ 64
  pub disk : continues old.disk new.disk
