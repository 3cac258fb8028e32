use Rattle.std.proofs.Common.{◌∙◌, sym}
use Rattle.voter.proofs.Settling.{end_there, ended_prepared}
use Rattle.voter.proofs.ended.Ended.prepare.Goals as goal

pub returns-in_ok-put_first-in-Some-clause-same : goal.returns-in_ok-put_first-in-Some-clause-same
returns-in_ok-put_first-in-Some-clause-same c = λ notes has.
    ended_prepared c.args.self.now.by_epoch.entries c.put_first.new.map.entries c.in-Some.epoch
    c.in_ok-put_first-in-Some.ensures.ok notes has

pub returns-in_ok-put_first-in-Some-clause-there : goal.returns-in_ok-put_first-in-Some-clause-there
returns-in_ok-put_first-in-Some-clause-there c =
    end_there c.args.self.now.by_epoch.entries c.put_first.new.map.entries c.in-Some.epoch
    c.in-Some.field-0-1
    c.in_ok-put_first-in-Some.ensures.ok c.args.note.now (sym c.ending.ensures ∙ c.in-Some.is)
