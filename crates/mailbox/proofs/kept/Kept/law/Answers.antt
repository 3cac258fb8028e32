use Rattle.mailbox.proofs.kept.Kept.law.Goals as goal

pub returns-clause-replay : goal.returns-clause-replay
returns-clause-replay g c = rw (← c.self.view_is) c.self.invariant.0
