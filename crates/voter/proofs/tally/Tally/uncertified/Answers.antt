use Rattle.std.proofs.Common.{◌≡◌, true, subst}
use Rattle.std.specs.List.{list_all}
use Rattle.note_scans.specs.Countable.{is_countable}
use Rattle.voter.specs.Standing.{is_formed}
use Rattle.voter.proofs.Formed.{uncertified_counts}
use Rattle.voter.proofs.tally.Tally.uncertified.Goals as goal

pub returns-clause-ordered : goal.returns-clause-ordered
returns-clause-ordered g c =
    let notes : list_all is_countable c.args.self.now.notes ≡ true =
    subst (λ k. list_all is_countable k.notes ≡ true) c.self.view_is
    c.self.invariant.countable in
    let ballots : list_all is_formed c.args.self.now.ballots ≡ true =
    subst (λ k. list_all is_formed k.ballots ≡ true) c.self.view_is c.self.invariant.formed in
    uncertified_counts c.args.self.now notes ballots (λ proposal. proposal.now) c.args.index
    c.nth_uncertified.result c.nth_uncertified.ensures
