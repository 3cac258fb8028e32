-- The log's format.
use Rattle.std.specs.Prelude.{◌≡◌, ◌≢◌, ◌⊎◌, ℕ, zero, suc, ◌+◌, ◌^◌, ◌<◌, List, [], ◌∷◌, ◌++◌, length, take, drop, slice_index, Result, Ok, Err, Bool, true, ◌&&◌, ◌==◌, nat_lt, if◌then◌else◌}
use Rattle.std.specs.Int.{w64, from_be_bytes}
use Rattle.cw_base.specs.Bytes.{be64}

-- the number that the first eight bytes say, the greatest part first
unfoldable pub count_of : List ℕ → ℕ
count_of bytes = from_be_bytes w64 (take 8 bytes)

-- these frames in front
abbrev pub with_front : List (List ℕ) → Result (List (List ℕ)) ℕ → Result (List (List ℕ)) ℕ
with_front frames (Ok more) = Ok (frames ++ more)
with_front frames (Err place) = Err place

-- The frames from this place on, after so many bytes more are passed, or the place of the open gate
-- whose frame is cut.
abbrev pub walk : ℕ → ℕ → List ℕ → Result (List (List ℕ)) ℕ
walk place skip [] = Ok []
walk place (suc skip) (byte ∷ bytes) = walk (place + 1) skip bytes
walk place zero (gate ∷ bytes) =
    let count = count_of bytes in
    if gate == 1
    then (if nat_lt (8 + count) (length bytes)
    then with_front (take count (drop 8 bytes) ∷ []) (walk (place + 1) (8 + count) bytes)
    else Err place)
    else Ok []

-- The frames of a log, or the place of the open gate whose frame is cut. A file shorter than two
-- bytes has no frames.
abbrev pub read_log : List ℕ → Result (List (List ℕ)) ℕ
read_log [] = Ok []
read_log (byte ∷ []) = Ok []
read_log (byte ∷ second ∷ bytes) = walk 0 0 (byte ∷ second ∷ bytes)

-- what stands behind the gate of a frame: eight bytes of length, and the frame
abbrev pub body : List ℕ → List ℕ
body frame = be64 (length frame) ++ frame

-- these frames, each behind an open gate
abbrev pub blocks : List (List ℕ) → List ℕ
blocks [] = []
blocks (frame ∷ frames) = 1 ∷ (body frame ++ blocks frames)

-- each frame's length fits its eight bytes
abbrev pub all_short : List (List ℕ) → Bool
all_short [] = true
all_short (frame ∷ frames) = nat_lt (length frame) (2 ^ 64) && all_short frames

-- a file of these frames, whose last gate stands at this place and is closed
pub record IsAtRest (frames : List (List ℕ)) (gate : ℕ) (bytes : List ℕ) : Type 0 where
  pub front : take gate bytes ≡ blocks frames
  pub place : gate ≡ length (blocks frames)
  pub inside : gate < length bytes
  pub closed : slice_index bytes gate ≢ 1
  pub short : all_short frames ≡ true

-- the frames of a log, none where it is refused
abbrev pub log_frames_or_none : Result (List (List ℕ)) ℕ → List (List ℕ)
log_frames_or_none (Ok frames) = frames
log_frames_or_none (Err place) = []

-- so many of the frames that a start on these bytes finds, from the first on
unfoldable pub frames_in : ℕ → List ℕ → List (List ℕ)
frames_in count bytes = take count (log_frames_or_none (read_log bytes))

-- a start on these bytes finds these frames
abbrev pub Finds : List (List ℕ) → List ℕ → Type 0
Finds frames bytes = read_log bytes ≡ Ok frames

-- a start on these bytes finds the frames, with the new one or without
abbrev pub FindsWithOrWithout : List (List ℕ) → List ℕ → List ℕ → Type 0
FindsWithOrWithout frames frame bytes = Finds frames bytes ⊎ Finds (frames ++ frame ∷ []) bytes

-- a start reads the same of both
abbrev pub ReadsSame : List ℕ → List ℕ → Type 0
ReadsSame bytes image = read_log image ≡ read_log bytes
