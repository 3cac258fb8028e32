use Rattle.marshal.proofs.Topping.{with_ack, with_floor, with_none, with_prune}
use Rattle.marshal.proofs.tops.Tops.with.Goals as goal

pub returns-in-Floor : goal.returns-in-Floor
returns-in-Floor c = λ notes is.
    rw c.in-Floor.is
    (with_floor notes c.args.self is c.in-Floor.height c.greater.result c.greater.ensures)

pub returns-in-Prune : goal.returns-in-Prune
returns-in-Prune c = λ notes is.
    rw c.in-Prune.is
    (with_prune notes c.args.self is c.in-Prune.height c.greater-in-Prune.result
    c.greater-in-Prune.ensures)

pub returns-in-Ack : goal.returns-in-Ack
returns-in-Ack c = λ notes is. rw c.in-Ack.is (with_ack notes c.args.self is c.in-Ack.height)

pub returns-in_default : goal.returns-in_default
returns-in_default c = λ notes is.
    with_none notes c.args.self is c.args.note.now c.in_default.not-Floor c.in_default.not-Prune
    c.in_default.not-Ack
