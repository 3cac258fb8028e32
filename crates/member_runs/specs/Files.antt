-- A file on which a host makes the calls of answers.
use Rattle.std.specs.Prelude.{[], List, ℕ, true, ◌++◌, ◌∷◌, ◌≡◌, ◌⊎◌, map}
use Rattle.cw_rules.specs.Coding.{AreBytes}
use Rattle.cw_types.specs.declared.note.Note.{Note}
use Rattle.marshal.specs.Frames.{ReadBack, frame_bytes}
use Rattle.node_disk.specs.Disk.{DeviceCall, Synced}
use Rattle.node_disk.specs.Frames.{all_short}
use Rattle.node_disk.specs.Images.{HadImage, IsImage, Moment}
use Rattle.node_disk.specs.Made.{last_moment, moments_before}

-- ---- shared syncs

-- the first writes of some answers
abbrev pub first_writes : List (List DeviceCall) → List DeviceCall
first_writes [] = []
first_writes ([] ∷ answers) = first_writes answers
first_writes ((call ∷ calls) ∷ answers) = call ∷ first_writes answers

-- their second writes, each behind a sync
abbrev pub second_writes : List (List DeviceCall) → List DeviceCall
second_writes [] = []
second_writes ((first ∷ sync ∷ second ∷ calls) ∷ answers) = second ∷ second_writes answers
second_writes (calls ∷ answers) = second_writes answers

-- the first, a sync, the second, a sync; nothing where there is nothing to write
abbrev pub with_syncs : List DeviceCall → List DeviceCall → List DeviceCall
with_syncs [] seconds = []
with_syncs (call ∷ firsts) seconds =
    (call ∷ firsts) ++ Synced true ∷ (seconds ++ Synced true ∷ [])

-- the calls of some answers that share their syncs
abbrev pub shared : List (List DeviceCall) → List DeviceCall
shared answers = with_syncs (first_writes answers) (second_writes answers)

-- ---- what is left

-- a crash while these calls are made in order on a file may leave this image
abbrev pub MayCrashTo : Moment → List DeviceCall → List ℕ → Type 0
MayCrashTo file calls image =
    HadImage (moments_before file calls) image ⊎ IsImage (last_moment file calls) image

-- The calls were begun, and stopped somewhere. What a read of the file gives then is one of its
-- images, of bytes; and a later crash leaves nothing that none of them could have left.
pub record MayBeLeft (file : Moment) (calls : List DeviceCall) (left : Moment) : Type 0 where
  pub seen : IsImage left left.seen
  pub bytes : AreBytes left.seen
  pub images : (image : List ℕ) → IsImage left image → MayCrashTo file calls image

-- ---- frames of notes

-- frames that are read back as they are written, each of a length that fits its eight bytes
pub record AreWritable (frames : List (List Note)) : Type 0 where
  pub readable : ReadBack frames
  pub short : all_short (map frame_bytes frames) ≡ true

-- the frames of these notes: one for each that aren't none
abbrev pub some_frames : List (List Note) → List (List Note)
some_frames [] = []
some_frames ([] ∷ more) = some_frames more
some_frames ((note ∷ notes) ∷ more) = (note ∷ notes) ∷ some_frames more
