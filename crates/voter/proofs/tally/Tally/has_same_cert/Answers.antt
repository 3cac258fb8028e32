use Rattle.std.proofs.Common.{subst}
use Rattle.voter.specs.Known.{Known}
use Rattle.voter.specs.Lists.{HasLists}
use Rattle.voter.proofs.tally.Tally.has_same_cert.Goals as goal

pub returns : goal.returns
returns g c =
    c.has.ensures c.args.self.now.ballots
    (subst (λ (k : Known). HasLists k.ballots c.self.inside.index.certs.lists.by_vote.entries)
    c.self.view_is c.self.invariant.listed)
