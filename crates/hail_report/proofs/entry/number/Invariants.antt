use Rattle.std.proofs.Common.{◌≡◌}
use Rattle.cw_rules.specs.World.{sent_from}
use Rattle.hail_report.proofs.entry.number.Given as goal

-- what is numbered so far
abbrev pub invariant-loop-out : goal.invariant-loop-out
invariant-loop-out l = l.sent.items ≡ sent_from l.first l.from l.yielded
