use Rattle.std.proofs.Common.{◌∙◌, sym}
use Rattle.voter.specs.Known.{known_state, vote_rules}
use Rattle.voter.specs.Owing.{owes_finalize}
use Rattle.voter.proofs.Voted.{finalize_where}
use Rattle.voter.proofs.tally.Tally.owes_finalize.Goals as goal

pub returns : goal.returns
unfolding owes_finalize
returns g c =
    c.can_finalize.ensures
    ∙ sym
    (finalize_where (vote_rules g.H.Hasher.digest_of c.args.self.now.epochs) c.args.self.now.id
    (known_state c.args.self.now) c.args.proposal.now)
