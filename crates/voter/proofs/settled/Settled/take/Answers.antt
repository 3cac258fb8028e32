use Rattle.std.proofs.Common.{◌∙◌, sym}
use Rattle.voter.proofs.Settling.{settled_same, settled_with}
use Rattle.voter.proofs.settled.Settled.take.Goals as goal

pub returns-in_ok-put_first-in-Some-clause-ok : goal.returns-in_ok-put_first-in-Some-clause-ok
returns-in_ok-put_first-in-Some-clause-ok c = λ notes has.
    settled_with c.args.self.now.by_key.entries c.put_first.new.map.entries notes c.args.note.now
    c.in-Some.key c.in-Some.payload has (sym c.settles.ensures ∙ c.in-Some.is)
    c.in_ok-put_first-in-Some.ensures.ok

pub returns-in-None-clause-ok : goal.returns-in-None-clause-ok
returns-in-None-clause-ok c = λ notes has.
    settled_same c.args.self.now.by_key.entries notes c.args.note.now has
    (sym c.settles.ensures ∙ c.in-None.is)
