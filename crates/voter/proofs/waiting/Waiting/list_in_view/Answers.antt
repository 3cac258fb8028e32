use Rattle.std.proofs.Common.{◌∙◌, sym}
use Rattle.cw_types.specs.Same.{same_proposal}
use Rattle.note_scans.specs.Keys.{keyed}
use Rattle.voter.proofs.Lineups.{proposals_keyed}
use Rattle.voter.proofs.Viewing.{views_again}
use Rattle.voter.proofs.waiting.Waiting.list_in_view.Goals as goal

pub returns-then-not-has-clause-views : goal.returns-then-not-has-clause-views
returns-then-not-has-clause-views c = λ now came noted is there are has.
    c.take.ensures came there
    (sym
    (c.has.ensures (keyed 3) same_proposal proposals_keyed now came c.args.proposal.now is
    are.of_came)
    ∙ c.if-not-has.true)
    has

pub returns-else-not-has-clause-views : goal.returns-else-not-has-clause-views
returns-else-not-has-clause-views c = λ now came noted is there are has.
    views_again c.args.self.now.views.by_view.entries c.args.proposal.now came
    (sym
    (c.has.ensures (keyed 3) same_proposal proposals_keyed now came c.args.proposal.now is
    are.of_came)
    ∙ c.if-not-has.false)
    has
