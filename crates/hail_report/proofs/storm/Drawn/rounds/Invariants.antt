use Rattle.std.proofs.Common.{◌+◌, ◌-◌, ◌≡◌}
use Rattle.std.specs.Prelude.{string_bytes}
use Rattle.hail_report.specs.Storm.{rounds, drawn}
use Rattle.hail_report.proofs.storm.Drawn.rounds.Given as goal

-- what is left from here makes the whole
abbrev pub invariant-loop-step : goal.invariant-loop-step
invariant-loop-step l =
    rounds (l.count - l.step) (1 + l.step) (drawn (string_bytes l.self.text) l.self.state)
    ≡ rounds l.count 1 (drawn (string_bytes l.initial.self.text) l.initial.self.state)
