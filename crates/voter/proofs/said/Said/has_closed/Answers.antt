use Rattle.std.proofs.Common.{◌∙◌, ap}
use Rattle.voter.specs.Facts.{said_at}
use Rattle.note_scans.specs.Keys.{in_view}
use Rattle.voter.proofs.Saying.{said_closed}
use Rattle.voter.proofs.said.Said.has_closed.Goals as goal

pub returns-clause-noted : goal.returns-clause-noted
returns-clause-noted c = λ notes has.
    c.has.ensures
    ∙ (ap (λ k. said_at k c.args.self.now.by_key.entries) c.in_view.ensures
    ∙ (has (in_view 5 c.args.epoch c.args.view) ∙ said_closed c.args.epoch c.args.view notes))
