use Rattle.std.proofs.Common.{◌∙◌, ap, Option, unwrap_or}
use Rattle.cw_types.proofs.Ordered.{found_same}
use Rattle.node.specs.Leading.{no_lead}
use Rattle.node.specs.declared.leads.Led.{Led}
use Rattle.node.proofs.leads.LeadMap.found.Goals as goal

pub returns-in-Some : goal.returns-in-Some
returns-in-Some c =
    ap (λ (o : Option Led). unwrap_or o no_lead)
    (c.in-Some.ensures.value ∙ found_same c.args.self.now.led.entries c.args.commitment.now)

pub returns-in-None : goal.returns-in-None
returns-in-None c =
    c.none.ensures
    ∙ ap (λ (o : Option Led). unwrap_or o no_lead)
    (c.in-None.ensures.value ∙ found_same c.args.self.now.led.entries c.args.commitment.now)
