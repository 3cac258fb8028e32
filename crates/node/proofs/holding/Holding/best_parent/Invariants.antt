use Rattle.std.proofs.Common.{◌≡◌, ◌≤◌}
use Rattle.cw_rules.specs.Direct.{best_parent}
use Rattle.voter.specs.Standing.{best_from}
use Rattle.node.specs.Holding.{rules_of}
use Rattle.node.specs.Store.{stored_notes}
use Rattle.node.proofs.holding.Holding.best_parent.Given as goal

abbrev pub invariant-loop-parent : goal.invariant-loop-parent
invariant-loop-parent g l =
    let r = rules_of g.H.Hasher.digest_of g.A.Application.accepts l.self in
    record {
      low : l.below ≤ l.fn.view;
      rest : best_parent r (stored_notes l.self.store) l.epoch l.fn.view
          ≡ best_from r l.self.tally.notes l.epoch l.below;
    }

abbrev pub decreases-loop-parent : goal.decreases-loop-parent
decreases-loop-parent g l = l.below
