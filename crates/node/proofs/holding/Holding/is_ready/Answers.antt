use Rattle.std.proofs.Common.{◌&&◌, ◌||◌, sym, ◌∙◌, ap}
use Rattle.cw_rules.specs.Owed.{has_part_by, is_again, is_payload_for}
use Rattle.cw_rules.specs.declared.travel.Travel.{Travel}
use Rattle.node.specs.Holding.{own_state, rules_of}
use Rattle.node.specs.Store.{stored_notes}
use Rattle.node.proofs.holding.Holding.is_ready.Goals as goal

pub returns : goal.returns
returns g c =
    let h = c.args.self.now in
    let hash = g.H.Hasher.digest_of in
    let r = rules_of hash g.A.Application.accepts h in
    let p = c.args.proposal.now in
    let m = c.args.parent.now in
    c.is_ready_by_knowing.ensures
    ∙ ap
    (λ (t : Travel). (has_part_by t r h.tally.id (own_state h) p && is_payload_for r p m)
    || is_again r (stored_notes h.store) p m)
    (sym c.requires.uncut)
