use Rattle.std.proofs.Common.{◌≡◌, ◌++◌, ◌∷◌, [], List, sym, ap, ◌∙◌, take}
use Rattle.std.proofs.lemmas.List.{take_more}
use Rattle.cw_types.specs.declared.note.Note.{Note}
use Rattle.cw_rules.specs.Held.{last_ack}
use Rattle.hail_world.specs.Runs.{acked_with}
use Rattle.hail_world.proofs.Standing.{acks_more}
use Rattle.hail_world.proofs.world.last_ack.Goals as goal

pub loop-note-preserved : goal.loop-note-preserved
loop-note-preserved c =
    let before = take c.loop-note.note-index c.args.notes.now in
    let note = c.note-item.result in
    let more = take_more c.args.notes.now c.loop-note.note-index note c.loop-note-test.true in
    c.acked-last.ensures ∙ rw c.loop-note.invariant (acks_more before note)
    ∙ sym (ap (λ (l : List Note). last_ack l) (rw (← c.note-item.is) at more))
