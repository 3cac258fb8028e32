use Rattle.std.proofs.Common.{sym}
use Rattle.voter.specs.Known.{known_state, vote_rules}
use Rattle.voter.specs.Owing.{owes_notarize}
use Rattle.voter.proofs.Voted.{notarize_found, notarize_missing}
use Rattle.voter.proofs.tally.Tally.owed_notarize.Goals as goal

pub returns-in-Some : goal.returns-in-Some
unfolding owes_notarize
returns-in-Some g c =
    sym
    (notarize_found (vote_rules g.H.Hasher.digest_of c.args.self.now.epochs) c.args.self.now.id
    (known_state c.args.self.now) c.first_to_notarize.result c.in-Some.proposal
    c.first_to_notarize.ensures c.in-Some.is)

pub returns-in-None : goal.returns-in-None
unfolding owes_notarize
returns-in-None g c =
    sym
    (notarize_missing (vote_rules g.H.Hasher.digest_of c.args.self.now.epochs)
    c.args.self.now.id (known_state c.args.self.now) c.first_to_notarize.result
    c.first_to_notarize.ensures c.in-None.is)
