-- What notes of verifications say.
use Rattle.std.specs.Prelude.{◌&&◌, ◌==◌, None, Option, Some, if◌then◌else◌}
use Rattle.cw_types.specs.declared.commitment.Commitment.{Commitment}
use Rattle.cw_types.specs.declared.note.Note.{Note}
use Rattle.cw_types.specs.declared.round.Round.{Round}

-- the commitment that a note says was verified in the round
abbrev pub verified_in : Round → Note → Option Commitment
verified_in round (Note.Verified epoch view c) =
    if (epoch == round.epoch) && (view == round.view) then Some c else None
verified_in round _ = None
