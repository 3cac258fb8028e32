use Rattle.std.proofs.Common.{◌∙◌, ap, max, sym}
use Rattle.voter.proofs.Settling.{ended_same, ended_with, is_there}
use Rattle.voter.proofs.ended.Ended.write.Goals as goal

pub returns-in-Some : goal.returns-in-Some
returns-in-Some c = λ notes has there.
    ended_with c.args.self.now.by_epoch.entries c.put_there.new.map.entries notes c.args.note.now
    c.in-Some.epoch c.in-Some.view c.max-greatest.result has (sym c.ending.ensures ∙ c.in-Some.is)
    (c.max-greatest.ensures ∙ ap (λ n. max n c.in-Some.view) c.at.ensures)
    (c.put_there.ensures
    (is_there c.args.self.now.by_epoch.entries c.args.note.now c.in-Some.epoch c.in-Some.view there
    (sym c.ending.ensures ∙ c.in-Some.is)))

pub returns-in_default : goal.returns-in_default
returns-in_default c = λ notes has there.
    ended_same c.args.self.now.by_epoch.entries notes c.args.note.now has
    (sym c.ending.ensures ∙ c.in_default.is)
