use Rattle.cw_types.specs.declared.note.Note.{Note}
use Rattle.cw_progress.proofs.Rising.{rises}
use Rattle.cw_progress.proofs.Tops.{notes_final}
use Rattle.cw_progress.proofs.laws.final_laws.Goals as goal

pub returns-clause-acked : goal.returns-clause-acked
returns-clause-acked c r script w cluster reach i m at h =
    notes_final r script w cluster reach i m at (Note.Ack h)

pub returns-clause-given_up : goal.returns-clause-given_up
returns-clause-given_up c r script w cluster reach i m at h =
    notes_final r script w cluster reach i m at (Note.Floor h)

pub returns-clause-let_go : goal.returns-clause-let_go
returns-clause-let_go c r script w cluster reach i m at h =
    notes_final r script w cluster reach i m at (Note.Prune h)

pub returns-clause-rise : goal.returns-clause-rise
returns-clause-rise c = rises
