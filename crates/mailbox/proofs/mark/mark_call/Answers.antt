use Rattle.mailbox.proofs.Marking.{marked_past, marked_set}
use Rattle.mailbox.specs.Calls.{is_entry}
use Rattle.mailbox.proofs.mark.mark_call.Goals as goal

pub returns-then-call-history : goal.returns-then-call-history
returns-then-call-history g c k x at =
    marked_set (is_entry {T = g.row.T.Denot} g.T.Event.PartialEq.eq g.T.Reply.PartialEq.eq)
    c.args.history.now c.args.marks.now k c.args.top c.args.call.now
    c.next_mark.result c.index-history-place.result x c.if-call-history.true c.requires
    c.index-history-place.is at c.next_mark.ensures

pub returns-else-call-history : goal.returns-else-call-history
returns-else-call-history g c k x at =
    marked_past (is_entry {T = g.row.T.Denot} g.T.Event.PartialEq.eq g.T.Reply.PartialEq.eq)
    c.args.history.now _ k c.args.top c.args.call.now x c.if-call-history.false at
