use Rattle.std.proofs.Common.{sym}
use Rattle.voter.specs.Known.{known_state, vote_rules}
use Rattle.voter.specs.Owing.{owes_finalize}
use Rattle.voter.proofs.Voted.{finalize_found, finalize_missing}
use Rattle.voter.proofs.tally.Tally.first_final.Goals as goal

pub returns-in-Some : goal.returns-in-Some
unfolding owes_finalize
returns-in-Some g c =
    sym
    (finalize_found (vote_rules g.H.Hasher.digest_of c.args.self.now.epochs) c.args.self.now.id
    (known_state c.args.self.now) c.first_to_finalize.result c.in-Some.proposal
    c.first_to_finalize.ensures c.in-Some.is)

pub returns-in-None : goal.returns-in-None
unfolding owes_finalize
returns-in-None g c =
    sym
    (finalize_missing (vote_rules g.H.Hasher.digest_of c.args.self.now.epochs)
    c.args.self.now.id (known_state c.args.self.now) c.first_to_finalize.result
    c.first_to_finalize.ensures c.in-None.is)
