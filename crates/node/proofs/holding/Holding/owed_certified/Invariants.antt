use Rattle.std.proofs.Common.{◌≡◌, ◌-◌, drop, find, length}
use Rattle.cw_rules.specs.Fits.{block_fits}
use Rattle.voter.specs.Owing.{uncertified}
use Rattle.node.specs.Holding.{rules_of}
use Rattle.node.specs.Store.{stored_notes}
use Rattle.node.proofs.holding.Holding.owed_certified.Given as goal

abbrev pub invariant-loop-proposal : goal.invariant-loop-proposal
invariant-loop-proposal g l =
    let fits =
    block_fits (rules_of g.H.Hasher.digest_of g.A.Application.accepts l.self)
    (stored_notes l.self.store) in
    find fits (uncertified l.self.tally) ≡ find fits (drop l.index (uncertified l.self.tally))

abbrev pub decreases-loop-proposal : goal.decreases-loop-proposal
decreases-loop-proposal g l = length (uncertified l.self.tally) - l.index
