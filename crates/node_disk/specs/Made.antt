-- What device calls that succeed make of a disk, whichever it is.
use Rattle.std.specs.Prelude.{◌≡◌, ℕ, ◌+◌, List, [], ◌∷◌, ◌++◌, length, Bool, true, ◌&&◌}
use Rattle.node_disk.specs.Images.{Moment}
use Rattle.node_disk.specs.Disk.{DiskState, DeviceCall, Wrote, Synced, put_at}
use Rattle.node_disk.specs.Frames.{body, Finds}

-- none of these device calls failed
abbrev pub all_done : List DeviceCall → Bool
all_done [] = true
all_done (Wrote place bytes done ∷ calls) = done && all_done calls
all_done (Synced done ∷ calls) = done && all_done calls

-- the moment behind a device call that succeeded
abbrev pub moment_behind : Moment → DeviceCall → Moment
moment_behind moment (Wrote place bytes done) =
    record {
      seen = put_at moment.seen place bytes;
      synced = moment.synced;
      ranges = moment.ranges ++ (place, length bytes) ∷ [];
    }
moment_behind moment (Synced done) =
    record { seen = moment.seen; synced = moment.seen; ranges = [] }

-- the moment behind these, made in order
abbrev pub last_moment : Moment → List DeviceCall → Moment
last_moment moment [] = moment
last_moment moment (call ∷ calls) = last_moment (moment_behind moment call) calls

-- the moment before each of them
abbrev pub moments_before : Moment → List DeviceCall → List Moment
moments_before moment [] = []
moments_before moment (call ∷ calls) =
    moment ∷ moments_before (moment_behind moment call) calls

-- these device calls were made on the disk, in order, and each succeeded
pub record HasMade (calls : List DeviceCall) (old new : DiskState) : Type 0 where
  pub now : new.now ≡ last_moment old.now calls
  pub past : new.past ≡ old.past ++ moments_before old.now calls

-- the place of the last gate, once a frame stands behind the one at this place
abbrev pub gate_behind : ℕ → List ℕ → ℕ
gate_behind gate frame = gate + 1 + length (body frame)

-- the first writes of some appends, in order: each frame and a closed gate behind the last gate
abbrev pub frame_writes : ℕ → List (List ℕ) → List DeviceCall
frame_writes gate [] = []
frame_writes gate (frame ∷ frames) =
    Wrote (gate + 1) (body frame ++ 0 ∷ []) true ∷ frame_writes (gate_behind gate frame) frames

-- their second writes: each opens a gate
abbrev pub gate_writes : ℕ → List (List ℕ) → List DeviceCall
gate_writes gate [] = []
gate_writes gate (frame ∷ frames) =
    Wrote gate (1 ∷ []) true ∷ gate_writes (gate_behind gate frame) frames

-- the device calls of some appends that share their two syncs
abbrev pub calls_of_group : ℕ → List (List ℕ) → List DeviceCall
calls_of_group gate frames =
    frame_writes gate frames ++ Synced true ∷ (gate_writes gate frames ++ Synced true ∷ [])

-- a start on these bytes finds the frames, and some of those behind them, from the first on
pub record FindsSome (frames more : List (List ℕ)) (bytes : List ℕ) : Type 0 where
  pub first : List (List ℕ)
  pub rest : List (List ℕ)
  pub whole : more ≡ first ++ rest
  pub found : Finds (frames ++ first) bytes
