-- What a stop leaves of an append.
use Rattle.std.specs.Prelude.{◌≡◌, ℕ, ◌<◌, List, [], ◌∷◌, ◌++◌, Bool, ◌&&◌, ◌||◌, ◌==◌, nat_le, if◌then◌else◌}
use Rattle.node_disk.specs.Memory.{MemoryState, stop_from_now}

-- a stop at the device call of this number, with this cut and fill, leaves the frame
abbrev pub leaves_it : ℕ → ℕ → ℕ → Bool
leaves_it call cut fill = (call == 3 || call == 4) && (nat_le 1 cut || fill == 1)

-- the frames that such a stop leaves
abbrev pub kept_frames : ℕ → ℕ → ℕ → List (List ℕ) → List ℕ → List (List ℕ)
kept_frames call cut fill frames frame =
    if leaves_it call cut fill then frames ++ frame ∷ [] else frames

-- a disk in memory whose one fault to come is a stop at this device call from now
pub record IsArmed (call cut fill : ℕ) (disk : MemoryState) : Type 0 where
  pub stop : disk.stop ≡ stop_from_now disk call cut fill
  pub later : 0 < call
  pub failing : disk.failing ≡ []
