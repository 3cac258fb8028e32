use Rattle.node.proofs.Leading.{all_more}
use Rattle.node.proofs.leads.LeadMap.add_all.Goals as goal

pub loop-lead-preserved : goal.loop-lead-preserved
loop-lead-preserved c =
    all_more c.args.self.now.led.entries c.loop-lead.self.led.entries c.add.new.self.led.entries
    c.args.leads.now c.loop-lead.lead-index c.lead-item.result c.loop-lead-test.true c.lead-item.is
    c.in_ok-add.ensures.ok c.loop-lead.invariant
