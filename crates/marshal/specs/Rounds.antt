-- What was verified last in each round.
use Rattle.std.specs.Prelude.{◌&&◌, ◌==◌, ◌≡◌, Bool, List, None, filter_map}
use Rattle.std.specs.List.{last_or}
use Rattle.std.specs.Map.{lookup}
use Rattle.cw_types.specs.declared.commitment.Commitment.{Commitment}
use Rattle.cw_types.specs.declared.note.Note.{Note}
use Rattle.cw_types.specs.declared.round.Round.{Round}
use Rattle.note_scans.specs.Verified.{verified_in}

-- rounds: the epoch and the view
abbrev pub same_round : Round → Round → Bool
same_round a b = (a.epoch == b.epoch) && (a.view == b.view)

-- a map has at each round the commitment that the last Verified note of it names, and nothing where
-- there is none
abbrev pub HasVerified : List (Round × Commitment) → List Note → Type 0
HasVerified entries notes =
    (r : Round) → lookup (same_round r) entries ≡ last_or None (filter_map (verified_in r) notes)
