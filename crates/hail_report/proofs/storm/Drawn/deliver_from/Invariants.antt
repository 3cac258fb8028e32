use Rattle.std.proofs.Common.{◌+◌, ◌-◌, ◌≡◌}
use Rattle.std.specs.Prelude.{string_bytes}
use Rattle.hail_report.specs.Storm.{deliver_from, drawn}
use Rattle.hail_report.proofs.storm.Drawn.deliver_from.Given as goal

-- what is left from here makes the whole
abbrev pub invariant-loop-step : goal.invariant-loop-step
invariant-loop-step l =
    deliver_from (l.count - l.step) (l.first + l.step)
    (drawn (string_bytes l.self.text) l.self.state)
    ≡ deliver_from l.count l.first (drawn (string_bytes l.initial.self.text) l.initial.self.state)
