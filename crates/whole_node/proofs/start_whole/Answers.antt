use Rattle.std.proofs.Common.{IfOk, subst}
use Rattle.cw_types.specs.Epochs.{Epochs, single}
use Rattle.node.specs.State.{IsNodeOf}
use Rattle.whole_node.proofs.Uncuts.{starts_uncut}
use Rattle.whole_node.proofs.start_whole.Goals as goal

pub returns-clause-start : goal.returns-clause-start
returns-clause-start g c =
    let is =
    subst
    (λ (x : Epochs). IfOk c.start.result
    (λ r. IsNodeOf c.args.id x c.args.backlog c.args.app r.0))
    c.in-Ok.ensures c.start.ensures.node in
    starts_uncut g.H.Hasher.digest_of g.A.Application.accepts c.args.id (single c.args.n)
    c.args.backlog c.args.app c.start.result is c.start.ensures.way c.start.ensures.start
