use Rattle.std.proofs.Common.{◌∙◌, sym}
use Rattle.voter.proofs.Running.{run_prepared, run_there}
use Rattle.voter.proofs.runs.Runs.prepare.Goals as goal

pub returns-in_ok-put_first-in-Some-clause-same : goal.returns-in_ok-put_first-in-Some-clause-same
returns-in_ok-put_first-in-Some-clause-same c = λ notes have.
    run_prepared c.args.self.now.by_end.entries c.put_first.new.map.entries c.end_key.result
    c.in_ok-put_first-in-Some.ensures.ok notes have

pub returns-in_ok-put_first-in-Some-clause-there : goal.returns-in_ok-put_first-in-Some-clause-there
returns-in_ok-put_first-in-Some-clause-there c =
    run_there c.args.self.now.by_end.entries c.put_first.new.map.entries c.end_key.result
    c.in_ok-put_first-in-Some.ensures.ok c.args.note.now c.in-Some.epoch c.in-Some.view
    (sym c.nullifying.ensures ∙ c.in-Some.is) c.end_key.ensures
