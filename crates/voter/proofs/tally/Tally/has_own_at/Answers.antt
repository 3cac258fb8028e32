use Rattle.std.proofs.Common.{subst}
use Rattle.voter.specs.Known.{Known}
use Rattle.voter.specs.Own.{HasOwn}
use Rattle.voter.proofs.tally.Tally.has_own_at.Goals as goal

pub returns : goal.returns
returns g c =
    c.has.ensures c.args.self.now.own
    (subst (λ (k : Known). HasOwn k.own c.self.inside.index.own.by_key.entries) c.self.view_is
    c.self.invariant.owned)
