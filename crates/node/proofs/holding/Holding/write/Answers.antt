use Rattle.std.proofs.Common.{◌∙◌, ap}
use Rattle.voter.specs.Known.{with_note}
use Rattle.node.proofs.Noting.{noted_one}
use Rattle.node.specs.Holding.{Holding, own_state, rules_of}
use Rattle.node.specs.Store.{with_staged}
use Rattle.node.proofs.holding.Holding.write.Goals as goal

pub returns-clause-ok : goal.returns-clause-ok
returns-clause-ok g c =
    let h = c.args.self.now in
    let hash = g.H.Hasher.digest_of in
    let accepts = g.A.Application.accepts in
    let e = c.self.view_is in
    let t =
    c.in_ok-stage.ensures.ok
    ∙ ap (λ (k : Holding g.row.D.Denot g.row.A.Denot). with_staged k.store c.args.note) e in
    let n =
    c.in_ok-take_note.ensures.ok
    ∙ ap (λ (k : Holding g.row.D.Denot g.row.A.Denot). with_note k.tally c.args.note) e in
    let l = c.in_ok-stage.ensures.log ∙ ap (λ (k : Holding g.row.D.Denot g.row.A.Denot). k.log) e in
    noted_one hash accepts h _ c.args.note c.requires.stands
    (c.standing_is_kept.ensures.note hash h.tally (rules_of hash accepts h) (own_state h)
    c.requires.stands.tally c.args.note)
    (λ i. record (e i) { store = t i; tally = n i; log = l i })
