use Rattle.std.proofs.Common.{◌∙◌, ap}
use Rattle.voter.specs.Facts.{said_at}
use Rattle.note_scans.specs.Keys.{key_of}
use Rattle.voter.proofs.Saying.{said_cert}
use Rattle.voter.proofs.said.Said.has_cert.Goals as goal

pub returns-clause-noted : goal.returns-clause-noted
returns-clause-noted c = λ notes has.
    c.has.ensures
    ∙ (ap (λ k. said_at k c.args.self.now.by_key.entries) c.new.ensures
    ∙ (has (key_of c.args.vote.now) ∙ said_cert c.args.vote.now notes))
