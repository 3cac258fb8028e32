use Rattle.std.proofs.Common.{◌≡◌, ◌-◌, drop, find, length}
use Rattle.cw_rules.specs.Owed.{can_vote}
use Rattle.voter.specs.Owing.{votable}
use Rattle.node.specs.Holding.{own_state, rules_of}
use Rattle.node.proofs.holding.Holding.first_ready.Given as goal

abbrev pub invariant-loop-proposal : goal.invariant-loop-proposal
invariant-loop-proposal g l =
    let ready =
    can_vote (rules_of g.H.Hasher.digest_of g.A.Application.accepts l.self) l.self.tally.id
    (own_state l.self) in
    find ready (votable l.self.tally) ≡ find ready (drop l.index (votable l.self.tally))

abbrev pub decreases-loop-proposal : goal.decreases-loop-proposal
decreases-loop-proposal g l = length (votable l.self.tally) - l.index
