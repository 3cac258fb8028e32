use Rattle.std.proofs.Common.{◌∙◌, sym}
use Rattle.node.proofs.Placing.{first_put, first_there}
use Rattle.node.proofs.came.put_first.Goals as goal

pub returns-then-contains_key-clause-ok : goal.returns-then-contains_key-clause-ok
returns-then-contains_key-clause-ok c =
    first_there c.args.places.now.entries c.args.commitment.now c.args.place
    (sym c.contains_key.ensures ∙ c.if-contains_key.true)

pub returns-clause-ok : goal.returns-clause-ok
returns-clause-ok c =
    first_put c.args.places.now.entries c.insert.new.self.entries c.args.commitment.now c.args.place
    (sym c.contains_key.ensures ∙ c.if-contains_key.false) c.in_ok-insert.ensures.updates.0
