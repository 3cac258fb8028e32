use Rattle.std.proofs.Common.{◌∙◌, ap}
use Rattle.std.specs.List.{list_any}
use Rattle.cw_rules.specs.Owed as rule
use Rattle.voter.specs.Known.{Known}
use Rattle.voter.proofs.Signing.{single_same}
use Rattle.voter.proofs.tally.Tally.has_voted_so.Goals as goal

pub returns-clause-vote : goal.returns-clause-vote
returns-clause-vote g c =
    c.has.ensures
    ∙ (c.self.invariant.signers.arrived c.args.vote.now c.args.member
    ∙ ap (λ (k : Known). list_any (rule.is_single c.args.member c.args.vote.now) k.ballots)
    c.self.view_is)

pub returns-clause-same : goal.returns-clause-same
returns-clause-same g c =
    c.has.ensures
    ∙ (c.self.invariant.signers.arrived c.args.vote.now c.args.member
    ∙ (ap (λ (k : Known). list_any (rule.is_single c.args.member c.args.vote.now) k.ballots)
    c.self.view_is
    ∙ single_same c.args.member c.args.vote.now c.args.self.now.ballots))
