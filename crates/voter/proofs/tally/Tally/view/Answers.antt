use Rattle.std.proofs.Common.{arith}
use Rattle.note_scans.proofs.Countable.{ended_below}
use Rattle.voter.proofs.tally.Tally.view.Goals as goal

pub overflow_add-result : goal.overflow_add-result
overflow_add-result g c =
    let below = ended_below c.args.epoch c.self.inside.notes c.self.invariant.countable in
    let is = c.of.ensures c.self.inside.notes c.self.invariant.facts.ending_views in
    omega (arith, below, is)
