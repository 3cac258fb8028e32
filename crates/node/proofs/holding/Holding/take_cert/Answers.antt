use Rattle.std.proofs.Common.{◌∙◌, ap}
use Rattle.cw_rules.specs.Accepted.{Many}
use Rattle.voter.specs.Known.{with_ballot}
use Rattle.node.proofs.Accepting.{came_ballot}
use Rattle.node.specs.Holding.{Holding, own_state, rules_of}
use Rattle.node.proofs.holding.Holding.take_cert.Goals as goal

pub returns-clause-ok : goal.returns-clause-ok
returns-clause-ok g c =
    let h = c.args.self.now in
    let hash = g.H.Hasher.digest_of in
    let e = c.self.view_is in
    let t =
    c.in_ok-take_cert.ensures.ok
    ∙ ap
    (λ (k : Holding g.row.D.Denot g.row.A.Denot). with_ballot k.tally
    (Many c.args.cert.now))
    e in
    came_ballot hash g.A.Application.accepts h _ (Many c.args.cert.now) c.requires.stands
    (c.standing_is_kept.ensures.ballot hash h.tally (rules_of hash g.A.Application.accepts h)
    (own_state h) c.requires.stands.tally (Many c.args.cert.now))
    (λ i. record (e i) { tally = t i })
