use Rattle.std.proofs.Common.{◌∙◌}
use Rattle.marshal.specs.Rounds.{same_round}
use Rattle.marshal.proofs.Placing.{found_by}
use Rattle.marshal.proofs.Rounding.{round_cmp, rounds_tie}
use Rattle.marshal.proofs.by_round.ByRound.of.Goals as goal

pub returns : goal.returns
returns c = λ notes has.
    c.copied.ensures
    ∙ (c.get.ensures.value
    ∙ (found_by same_round round_cmp rounds_tie c.args.self.now.last.entries c.args.round
    ∙ has c.args.round))
