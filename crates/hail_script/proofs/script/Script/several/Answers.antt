use Rattle.std.proofs.Common.{map, Ok}
use Rattle.hail_script.specs.Raw.{raw_line_of}
use Rattle.hail_script.proofs.Admitting.{several_is}
use Rattle.hail_script.proofs.script.Script.several.Goals as goal

pub returns-clause-err : goal.returns-clause-err
returns-clause-err c =
    let lines = map (λ line. line.now) c.args.lines.now in
    let events = rw c.behind.ensures at c.in-Ok-events_of.ensures.ok in
    rw (several_is c.args.travel c.args.members c.args.backlog c.args.span c.args.count lines
    c.in-Ok.lists
    (Ok (map raw_line_of c.in-Ok-events_of.events)) c.in-Ok.ensures.ok events)
    c.admit_epochs.ensures.err

pub returns-clause-ok : goal.returns-clause-ok
returns-clause-ok c =
    let lines = map (λ line. line.now) c.args.lines.now in
    let events = rw c.behind.ensures at c.in-Ok-events_of.ensures.ok in
    rw (several_is c.args.travel c.args.members c.args.backlog c.args.span c.args.count lines
    c.in-Ok.lists
    (Ok (map raw_line_of c.in-Ok-events_of.events)) c.in-Ok.ensures.ok events)
    c.admit_epochs.ensures.ok
