use Rattle.std.proofs.Common.{◌≡◌, ◌∙◌, List, ap, slice_get, subst, sym}
use Rattle.cw_rules.specs.Accepted.{Ballot}
use Rattle.voter.specs.Certs.{HasFirst, first_place}
use Rattle.voter.specs.Known.{Known}
use Rattle.voter.proofs.FirstCerts.{first_none, first_some_at}
use Rattle.voter.proofs.tally.Tally.first_cert.Goals as goal

pub returns-in-Some : goal.returns-in-Some
returns-in-Some g c =
    let told : c.place.result ≡ first_place c.args.vote.now c.args.self.now.ballots =
    c.place.ensures c.args.self.now.ballots
    (subst (λ (k : Known). HasFirst k.ballots c.self.inside.index.certs.first.entries)
    c.self.view_is c.self.invariant.places) in
    c.ballot_at.ensures
    ∙ (ap (λ (bs : List Ballot). slice_get bs c.in-Some.place)
    (c.as_slice.ensures ∙ ap (λ (k : Known). k.ballots) c.self.view_is)
    ∙ first_some_at c.args.self.now.ballots c.args.vote.now c.in-Some.place
    (sym told ∙ c.in-Some.is))

pub returns-in-None : goal.returns-in-None
returns-in-None g c =
    let told : c.place.result ≡ first_place c.args.vote.now c.args.self.now.ballots =
    c.place.ensures c.args.self.now.ballots
    (subst (λ (k : Known). HasFirst k.ballots c.self.inside.index.certs.first.entries)
    c.self.view_is c.self.invariant.places) in
    first_none c.args.self.now.ballots c.args.vote.now (sym told ∙ c.in-None.is)
