use Rattle.std.proofs.Common.{◌≡◌, true, subst}
use Rattle.std.specs.List.{list_all}
use Rattle.note_scans.specs.Countable.{is_countable}
use Rattle.voter.specs.Owing.{owes_cert}
use Rattle.voter.specs.Standing.{is_formed}
use Rattle.voter.proofs.Formed.{found_counts}
use Rattle.voter.proofs.tally.Tally.first_owing.Goals as goal

pub returns-clause-formed : goal.returns-clause-formed
returns-clause-formed g c =
    let notes : list_all is_countable c.args.self.now.notes ≡ true =
    subst (λ k. list_all is_countable k.notes ≡ true) c.self.view_is
    c.self.invariant.countable in
    let ballots : list_all is_formed c.args.self.now.ballots ≡ true =
    subst (λ k. list_all is_formed k.ballots ≡ true) c.self.view_is c.self.invariant.formed in
    found_counts g.H.Hasher.digest_of c.args.self.now notes ballots
    (owes_cert g.H.Hasher.digest_of c.args.self.now) c.first_certifiable.result
    c.first_certifiable.ensures
