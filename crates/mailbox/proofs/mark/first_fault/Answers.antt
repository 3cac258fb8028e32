use Rattle.std.proofs.Common.{◌≡◌, [], drop, map}
use Rattle.std.proofs.lemmas.List.{drop_all}
use Rattle.mailbox.proofs.Marking.{fault_of}
use Rattle.mailbox.specs.Calls.{is_entry}
use Rattle.mailbox.proofs.mark.first_fault.Goals as goal

pub returns : goal.returns
returns g c =
    let none : drop c.loop-list.list-index c.args.lists.now ≡ [] =
    drop_all c.loop-list.list-index c.args.lists.now c.loop-list-test.false in
    fault_of (is_entry {T = g.row.T.Denot} g.T.Event.PartialEq.eq g.T.Reply.PartialEq.eq)
    c.args.history.now (map (λ v. v.items) c.args.lists.now) c.loop-list.marks
    c.first_unfilled.result c.loop-list.invariant.0
    (λ k x at. rw none at (c.loop-list.invariant.1 k x at))
    c.first_unfilled.ensures
