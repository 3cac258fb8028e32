use Rattle.std.proofs.Common.{◌∙◌, ap}
use Rattle.node.specs.Leading.{merge}
use Rattle.node.proofs.Leading.{led_more}
use Rattle.node.proofs.leads.LeadMap.add.Goals as goal

pub returns-clause-ok : goal.returns-clause-ok
returns-clause-ok c =
    let lead = c.args.lead.now in
    led_more c.args.self.now.led.entries c.insert.new.self.entries lead c.and-led.result
    (c.and-led.ensures ∙ ap (λ m. merge m lead.by) c.found.ensures)
    c.in_ok-insert.ensures.updates.0
