-- What a start finds in the frames of a log.
use Rattle.std.specs.Prelude.{◌≡◌, ◌⊎◌, ℕ, ◌+◌, ◌==◌, List, [], ◌∷◌, length, Option, Some, None, Result, Ok, Err, if◌then◌else◌}
use Rattle.cw_base.specs.Reading.{Reading, be64_at}
use Rattle.node_disk.specs.Frames.{read_log}
use Rattle.node_disk.specs.Images.{Moment, IsImage}

-- what stands behind a number, where it is this height
abbrev pub behind_height : ℕ → Reading ℕ → Option (List ℕ)
behind_height height (Ok read) = if read.0 == height then Some read.1 else None
behind_height height (Err refusal) = None

-- the payload in a frame of this height; none where the frame is shorter than eight bytes or of
-- another height
abbrev pub payload_in : ℕ → List ℕ → Option (List ℕ)
payload_in height frame = behind_height height (be64_at frame)

-- a payload in front of those that are found behind it
abbrev pub with_payload : List ℕ → Result (List (List ℕ)) ℕ → Result (List (List ℕ)) ℕ
with_payload payload (Ok payloads) = Ok (payload ∷ payloads)
with_payload payload (Err place) = Err place

-- the payload of the first frame, whose gate byte stands at this place, in front of those behind it
abbrev pub first_payload : ℕ → Option (List ℕ) → Result (List (List ℕ)) ℕ → Result (List (List ℕ)) ℕ
first_payload place None more = Err place
first_payload place (Some payload) more = with_payload payload more

-- the payloads of frames of heights from this one on, the first frame behind its gate byte at this
-- place, or the place of the gate byte of the first frame that is shorter than eight bytes or of
-- another height
abbrev pub payloads_from : ℕ → ℕ → List (List ℕ) → Result (List (List ℕ)) ℕ
payloads_from place height [] = Ok []
payloads_from place height (frame ∷ frames) =
    first_payload place (payload_in height frame)
    (payloads_from (place + 9 + length frame) (height + 1) frames)

-- the payloads of a log's frames
abbrev pub payloads_of : Result (List (List ℕ)) ℕ → Result (List (List ℕ)) ℕ
payloads_of (Ok frames) = payloads_from 0 0 frames
payloads_of (Err place) = Err place

-- what a start finds on these bytes: the payloads of heights 0 on, or the place of the gate byte of
-- the first frame that is cut, or, where none is, that is shorter than eight bytes or whose height
-- isn't one above that of the frame before
abbrev pub read_payloads : List ℕ → Result (List (List ℕ)) ℕ
read_payloads bytes = payloads_of (read_log bytes)

-- a start on these bytes finds these payloads
abbrev pub FindsPayloads : List (List ℕ) → List ℕ → Type 0
FindsPayloads payloads bytes = read_payloads bytes ≡ Ok payloads

-- a start on these bytes finds what was before a call or what is after it
abbrev pub FindsEither : List (List ℕ) → List (List ℕ) → List ℕ → Type 0
FindsEither before after bytes = FindsPayloads before bytes ⊎ FindsPayloads after bytes

-- an image that could be left before, or one on which a start finds what it finds on what a read
-- gave then
abbrev pub IsBeforeOrPayloads : Moment → List ℕ → Type 0
IsBeforeOrPayloads moment image =
    IsImage moment image ⊎ (read_payloads image ≡ read_payloads moment.seen)
