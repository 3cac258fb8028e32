use Rattle.std.proofs.Common.{◌∙◌, sym}
use Rattle.voter.proofs.Saying.{said_prepared, said_there}
use Rattle.voter.proofs.said.Said.prepare.Goals as goal

pub returns-in_ok-put_first-in-Some-clause-same : goal.returns-in_ok-put_first-in-Some-clause-same
returns-in_ok-put_first-in-Some-clause-same c = λ notes has.
    said_prepared c.args.self.now.by_key.entries c.put_first.new.map.entries c.in-Some.key
    c.in_ok-put_first-in-Some.ensures.ok notes has

pub returns-in_ok-put_first-in-Some-clause-there : goal.returns-in_ok-put_first-in-Some-clause-there
returns-in_ok-put_first-in-Some-clause-there c =
    said_there c.args.self.now.by_key.entries c.put_first.new.map.entries c.in-Some.key
    c.in_ok-put_first-in-Some.ensures.ok c.args.note.now (sym c.fact_of.ensures ∙ c.in-Some.is)
