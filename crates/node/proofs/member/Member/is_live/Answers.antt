use Rattle.std.proofs.Common.{◌≡◌, ◌∙◌, [], ap, subst, sym, true}
use Rattle.std.specs.Prelude.{not}
use Rattle.std.proofs.lemmas.Bool.{not-true}
use Rattle.node.proofs.Working.{at_work}
use Rattle.node.specs.Holding.{node_of}
use Rattle.node.specs.State.{IsAtWork, NodeState}
use Rattle.node.proofs.member.Member.is_live.Goals as goal

pub returns-clause-at_work : goal.returns-clause-at_work
returns-clause-at_work g c alive =
    let h = c.self.inside.holding in
    let live : not c.self.inside.failed ≡ true =
    ap (λ (n : NodeState g.row.D.Denot g.row.A.Denot). n.member.live) c.self.view_is ∙ alive in
    let running = (c.self.invariant.1 (not-true c.self.inside.failed live)).ready.stands.running in
    let now = (λ i. node_of (sym live i) h) ∙ c.self.view_is in
    subst (λ (n : NodeState g.row.D.Denot g.row.A.Denot). IsAtWork g.D.Disk.state n) now
    (at_work g.D.Disk.state h running c.rests.ensures.running c.rests.ensures.frames
    c.rests.ensures.readable (c.rests.ensures.settled running)
    (c.rests.ensures.still running []))
