use Rattle.voter.proofs.OwnKeys.{own_with}
use Rattle.voter.proofs.own_keys.OwnKeys.take.Goals as goal

pub returns-clause-ok : goal.returns-clause-ok
returns-clause-ok c = λ own x has is at.
    own_with own x c.args.commitment.now c.args.index c.own_key.result
    c.args.self.now.by_key.entries c.put_first.new.map.entries has is at c.own_key.ensures
    c.in_ok-put_first.ensures.ok
