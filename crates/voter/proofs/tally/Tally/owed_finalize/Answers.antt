use Rattle.std.proofs.Common.{◌≡◌, true, subst}
use Rattle.std.specs.List.{list_all}
use Rattle.note_scans.specs.Countable.{is_countable}
use Rattle.voter.specs.Standing.{is_formed}
use Rattle.voter.proofs.Formed.{final_countable}
use Rattle.voter.proofs.tally.Tally.owed_finalize.Goals as goal

pub returns-clause-countable : goal.returns-clause-countable
returns-clause-countable g c =
    let notes : list_all is_countable c.args.self.now.notes ≡ true =
    subst (λ k. list_all is_countable k.notes ≡ true) c.self.view_is
    c.self.invariant.countable in
    let ballots : list_all is_formed c.args.self.now.ballots ≡ true =
    subst (λ k. list_all is_formed k.ballots ≡ true) c.self.view_is c.self.invariant.formed in
    final_countable g.H.Hasher.digest_of c.args.self.now notes ballots c.first_final.result
    c.first_final.ensures
