use Rattle.std.proofs.Common.{◌∙◌, ap, ◌++◌, ◌∷◌, []}
use Rattle.node.proofs.Accepting.{came_wish}
use Rattle.node.specs.Holding.{Holding, own_state, rules_of}
use Rattle.node.proofs.holding.Holding.add_wish.Goals as goal

pub returns-clause-ok : goal.returns-clause-ok
returns-clause-ok g c =
    let h = c.args.self.now in
    let hash = g.H.Hasher.digest_of in
    let e = c.self.view_is in
    let t =
    c.in_ok-push.ensures.ok
    ∙ ap (λ (k : Holding g.row.D.Denot g.row.A.Denot). k.wishes ++ c.args.commitment.now ∷ [])
    e in
    came_wish hash g.A.Application.accepts h _ c.args.commitment.now c.requires
    (c.standing_is_kept.ensures.wish hash h.tally (rules_of hash g.A.Application.accepts h)
    (own_state h) c.requires.tally c.args.commitment.now)
    (λ i. record (e i) { wishes = t i })
