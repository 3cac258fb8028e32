-- Records in the frames of a log.
use Rattle.std.specs.Prelude.{ℕ, ◌+◌, List, [], ◌∷◌, length, Option, Some, None, Result, Ok, Err, Bool, if◌then◌else◌}

-- the place of the gate byte of the first of these frames that is no record, the first of them
-- behind its gate byte at this place and of this number
abbrev pub first_refused : (ℕ → List ℕ → Bool) → ℕ → ℕ → List (List ℕ) → Option ℕ
first_refused is_record place number [] = None
first_refused is_record place number (frame ∷ frames) =
    if is_record number frame
    then first_refused is_record (place + 9 + length frame) (number + 1) frames
    else Some place

-- what a start refuses of a log: the frame that is cut, or, where none is, the first that is no
-- record
abbrev pub refused_place : (ℕ → List ℕ → Bool) → Result (List (List ℕ)) ℕ → Option ℕ
refused_place is_record (Ok frames) = first_refused is_record 0 0 frames
refused_place is_record (Err place) = Some place
