use Rattle.std.proofs.Common.{◌∙◌}
use Rattle.voter.proofs.OwnKeys.{own_told}
use Rattle.voter.proofs.own_keys.OwnKeys.has.Goals as goal

pub returns : goal.returns
returns c = λ own has.
    c.contains_key.ensures
    ∙ own_told own c.args.commitment.now c.args.index c.own_key.result
    c.args.self.now.by_key.entries has c.own_key.ensures
