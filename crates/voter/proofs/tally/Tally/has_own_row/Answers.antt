use Rattle.std.proofs.Common.{◌∙◌, sym}
use Rattle.cw_types.specs.Epochs.{place}
use Rattle.voter.proofs.Voted.{own_at}
use Rattle.voter.proofs.tally.Tally.has_own_row.Goals as goal

pub returns : goal.returns
returns g c =
    c.has_own_chunk.ensures
    ∙ sym
    (own_at c.args.proposal.now.payload c.args.self.now.own
    (place c.args.self.now.epochs c.args.proposal.now.epoch c.args.self.now.id))
