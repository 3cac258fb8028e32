use Rattle.std.proofs.Common.{◌∙◌, sym}
use Rattle.voter.proofs.Saying.{said_is_there, said_with}
use Rattle.voter.proofs.said.Said.write.Goals as goal

pub returns-in-Some : goal.returns-in-Some
returns-in-Some c = λ notes has there.
    said_with c.args.self.now.by_key.entries c.put_there.new.map.entries notes c.args.note.now
    c.in-Some.key has (sym c.fact_of.ensures ∙ c.in-Some.is)
    (c.put_there.ensures
    (said_is_there c.args.self.now.by_key.entries c.args.note.now c.in-Some.key there
    (sym c.fact_of.ensures ∙ c.in-Some.is)))
