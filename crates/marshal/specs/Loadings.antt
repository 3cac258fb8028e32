-- The frames of a log, as they are read one behind the other.
use Rattle.std.specs.Prelude.{ℕ, List, Bool, is_some}
use Rattle.marshal.specs.Frames.{notes_in}
use Rattle.marshal.specs.Loading.{AreLoaded}
use Rattle.marshal.specs.declared.frames.Loading.{Loading}

-- a frame is notes
abbrev pub is_noted : ℕ → List ℕ → Bool
is_noted number frame = is_some (notes_in frame)

-- these frames were read
abbrev pub HaveNotes : Loading → List (List ℕ) → Type 0
HaveNotes loading frames = AreLoaded frames loading.notes.items loading.last
