-- What a ballot of the code stands for.
use Rattle.cw_rules.specs.Accepted.{Ballot, Many, Single}
use Rattle.voter.specs.declared.ballot.Kind.{Kind}
use Rattle.voter.specs.declared.ballot.Kind.TheVariants as kind

-- as the rules name it
abbrev pub ballot_of : Kind → Ballot
ballot_of (kind.Single signer vote) = Single signer vote
ballot_of (kind.Many cert) = Many cert
