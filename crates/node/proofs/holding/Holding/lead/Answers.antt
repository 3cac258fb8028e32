use Rattle.std.proofs.Common.{◌∙◌, ap, sym}
use Rattle.cw_rules.specs.Sends as rule
use Rattle.node.specs.Holding.{rules_of}
use Rattle.node.specs.Store.{stored_notes}
use Rattle.node.proofs.holding.Holding.lead.Goals as goal

pub returns-in-Block : goal.returns-in-Block
returns-in-Block g c = λ height.
    let h = c.args.self.now in
    c.parent_lead.ensures height
    ∙ sym
    (ap
    (rule.leads (rules_of g.H.Hasher.digest_of g.A.Application.accepts h) (stored_notes h.store)
    height)
    c.in-Block.is)
