use Rattle.std.proofs.Common.{◌∙◌, ap}
use Rattle.voter.specs.Facts.{said_at}
use Rattle.note_scans.specs.Keys.{keyed}
use Rattle.voter.proofs.Saying.{said_certified}
use Rattle.voter.proofs.said.Said.has_certified.Goals as goal

pub returns-clause-noted : goal.returns-clause-noted
returns-clause-noted c = λ notes has.
    c.has.ensures
    ∙ (ap (λ k. said_at k c.args.self.now.by_key.entries) c.on.ensures
    ∙ (has (keyed 3 c.args.proposal.now) ∙ said_certified c.args.proposal.now notes))
