use Rattle.std.proofs.Common.{◌++◌, List, take}
use Rattle.cw_rules.specs.World.{Sent}
use Rattle.hail_report.specs.Votes.{TellVotes}
use Rattle.hail_report.proofs.votes.Votes.take_all.Given as goal

-- what is kept tells of the messages so far
abbrev pub invariant-loop-one : goal.invariant-loop-one
invariant-loop-one l =
    (before : List Sent) → TellVotes l.fn.self.rounds before
    → TellVotes l.self.rounds (before ++ take l.one-index l.sent)
