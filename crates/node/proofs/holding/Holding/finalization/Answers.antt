use Rattle.std.proofs.Common.{◌∙◌, ap, true}
use Rattle.cw_rules.specs.Accepted.{first_some}
use Rattle.cw_rules.specs.Sends.{finalization_at}
use Rattle.cw_rules_coded.specs.Coded.{coded}
use Rattle.marshal.proofs.Applications.{any_finalization}
use Rattle.node.specs.Holding.{Holding}
use Rattle.node.specs.Store.{stored_notes, stored_rules}
use Rattle.node.proofs.holding.Holding.finalization.Goals as goal

pub returns : goal.returns
returns g c =
    let h = c.args.self.now in
    let hash = g.H.Hasher.digest_of in
    let s = c.requires in
    let all = stored_notes h.store in
    let same =
    ap
    (λ (k : Holding g.row.D.Denot g.row.A.Denot). first_some
    (finalization_at (stored_rules hash k.store) (stored_notes k.store) c.args.height)
    (stored_notes k.store))
    c.self.view_is in
    c.finalization.ensures
    ∙ (same
    ∙ ((λ i. first_some
    (finalization_at (coded hash (s.epochs i) (s.backlog i) (λ b a. true)) all
    c.args.height)
    all)
    ∙ any_finalization h.travel hash h.epochs h.backlog (g.A.Application.accepts h.app) all
    c.args.height))
