use Rattle.std.proofs.Common.{ap, subst, sym}
use Rattle.voter.specs.Known.{Known}
use Rattle.voter.specs.Signing.{HaveSigners}
use Rattle.voter.proofs.tally.Tally.signers.Goals as goal

pub returns : goal.returns
returns g c =
    let index = c.self.inside.index in
    c.signers.ensures c.args.self.now (sym (ap (λ (k : Known). k.epochs) c.self.view_is))
    (subst
    (λ (k : Known). HaveSigners k.epochs k.id k.notes k.ballots index.came.by_vote.entries
    index.known.by_vote.entries)
    c.self.view_is c.self.invariant.signers)
