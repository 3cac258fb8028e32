use Rattle.std.specs.Prelude.{string_bytes}
use Rattle.hail_report.specs.Storm.{rounds, drawn}
use Rattle.hail_report.proofs.Rounds.{is_shown, round_end, round_on, round_start}
use Rattle.hail_report.proofs.storm.Drawn.rounds.Goals as goal

pub loop-step-init : goal.loop-step-init
loop-step-init c =
    round_start c.args.count (drawn (string_bytes c.args.self.now.text) c.args.self.now.state)

pub loop-step-preserved : goal.loop-step-preserved
loop-step-preserved c =
    round_on c.args.count c.loop-step.step (string_bytes c.loop-step.self.text)
    (string_bytes c.round.new.self.text) c.loop-step.self.state c.round.new.self.state
    (rounds c.args.count 1 (drawn (string_bytes c.args.self.now.text) c.args.self.now.state))
    c.loop-step-test.true c.loop-step.invariant c.in_ok-round.ensures

pub returns : goal.returns
returns c =
    let whole =
    rounds c.args.count 1 (drawn (string_bytes c.args.self.now.text) c.args.self.now.state) in
    is_shown (string_bytes c.loop-step.self.text) c.loop-step.self.state whole
    (round_end c.args.count c.loop-step.step
    (drawn (string_bytes c.loop-step.self.text) c.loop-step.self.state) whole
    c.loop-step-test.false c.loop-step.invariant)
