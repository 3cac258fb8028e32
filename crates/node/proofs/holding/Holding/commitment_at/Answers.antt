use Rattle.std.proofs.Common.{◌∙◌, ap, true}
use Rattle.cw_rules.specs.Held.{at_height}
use Rattle.cw_rules_coded.specs.Coded.{coded}
use Rattle.marshal.proofs.Applications.{any_height}
use Rattle.node.specs.Holding.{Holding}
use Rattle.node.specs.Store.{stored_notes, stored_rules}
use Rattle.node.proofs.holding.Holding.commitment_at.Goals as goal

pub returns : goal.returns
returns g c =
    let h = c.args.self.now in
    let hash = g.H.Hasher.digest_of in
    let s = c.requires in
    let same =
    ap
    (λ (k : Holding g.row.D.Denot g.row.A.Denot). at_height (stored_rules hash k.store)
    (stored_notes k.store) c.args.height)
    c.self.view_is in
    c.commitment_at.ensures
    ∙ (same
    ∙ ((λ i. at_height (coded hash (s.epochs i) (s.backlog i) (λ b a. true))
    (stored_notes h.store) c.args.height)
    ∙ any_height h.travel hash h.epochs h.backlog (g.A.Application.accepts h.app)
    (stored_notes h.store) c.args.height))
