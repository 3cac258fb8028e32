use Rattle.std.proofs.Common.{map, sym, ap, ◌∙◌, take, List, Bool}
use Rattle.std.proofs.lemmas.List.{map_more}
use Rattle.cw_rules.specs.World.{Line}
use Rattle.hail_script.specs.Admission as admission
use Rattle.hail_script.specs.Grammar as grammar
use Rattle.hail_script.specs.Raw.{raw_line_of}
use Rattle.hail_script.proofs.Marks.{marks_more}
use Rattle.hail_script.proofs.parse.marks_of.Goals as goal

pub loop-event-preserved : goal.loop-event-preserved
loop-event-preserved c =
    let before : List Line = map raw_line_of (take c.loop-event.event-index c.args.events.now) in
    let total = c.args.total in
    let event = c.event-item.result in
    let more =
    map_more raw_line_of c.args.events.now c.loop-event.event-index event c.loop-event-test.true in
    c.mark.ensures
    ∙ ap (λ (l : List Bool). admission.with_faulty l (raw_line_of event)) c.loop-event.invariant
    ∙ marks_more before total (raw_line_of event)
    ∙ sym (ap (λ (l : List Line). grammar.faulty_marks l total) (rw (← c.event-item.is) at more))
