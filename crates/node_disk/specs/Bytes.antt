-- Frames that are kept as they are.
use Rattle.std.specs.Prelude.{◌≡◌, ℕ, List, Bool, true}
use Rattle.node_disk.specs.Log.{all_items}
use Rattle.node_disk.specs.declared.records.Bytes.{Bytes}

-- each frame is a record
abbrev pub are_all : ℕ → List ℕ → Bool
are_all number frame = true

-- these are the frames that are kept
abbrev pub HasFrames : Bytes → List (List ℕ) → Type 0
HasFrames bytes frames = all_items bytes.frames.items ≡ frames
