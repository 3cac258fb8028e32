use Rattle.std.proofs.Common.{◌≡◌, ◌≤◌, ◌-◌}
use Rattle.cw_rules.specs.Owed.{reached_epoch}
use Rattle.node.specs.Holding.{rules_of}
use Rattle.node.specs.Store.{stored_notes}
use Rattle.node.proofs.holding.Holding.reached_epoch.Given as goal

abbrev pub invariant-loop-epoch : goal.invariant-loop-epoch
invariant-loop-epoch g l = record {
  low : l.epoch ≤ l.fn.top;
  rest : reached_epoch (rules_of g.H.Hasher.digest_of g.A.Application.accepts l.self)
      (stored_notes l.self.store) l.span l.epoch
      ≡ reached_epoch (rules_of g.H.Hasher.digest_of g.A.Application.accepts l.self)
      (stored_notes l.self.store) l.span l.fn.top;
}

abbrev pub decreases-loop-epoch : goal.decreases-loop-epoch
decreases-loop-epoch g l = l.epoch - l.current
