use Rattle.std.specs.Prelude.{string_bytes}
use Rattle.hail_report.specs.Storm.{deliver_from, drawn}
use Rattle.hail_report.proofs.Rounds.{deliver_end, deliver_on, deliver_start, is_shown}
use Rattle.hail_report.proofs.storm.Drawn.deliver_from.Goals as goal

pub loop-step-init : goal.loop-step-init
loop-step-init c =
    deliver_start c.args.count c.args.first
    (drawn (string_bytes c.args.self.now.text) c.args.self.now.state)

pub loop-step-preserved : goal.loop-step-preserved
loop-step-preserved c =
    deliver_on c.args.count c.loop-step.step c.args.first (string_bytes c.loop-step.self.text)
    (string_bytes c.deliver_all.new.self.text) c.loop-step.self.state
    c.deliver_all.new.self.state
    (deliver_from c.args.count c.args.first
    (drawn (string_bytes c.args.self.now.text) c.args.self.now.state))
    c.loop-step-test.true c.loop-step.invariant c.in_ok-deliver_all.ensures

pub returns : goal.returns
returns c =
    let whole =
    deliver_from c.args.count c.args.first
    (drawn (string_bytes c.args.self.now.text) c.args.self.now.state) in
    is_shown (string_bytes c.loop-step.self.text) c.loop-step.self.state whole
    (deliver_end c.args.count c.loop-step.step c.args.first
    (drawn (string_bytes c.loop-step.self.text) c.loop-step.self.state) whole
    c.loop-step-test.false c.loop-step.invariant)
