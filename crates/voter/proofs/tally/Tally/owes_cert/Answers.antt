use Rattle.std.proofs.Common.{◌∙◌, ap, subst, sym}
use Rattle.voter.specs.Certs.{HasFirst}
use Rattle.voter.specs.Facts.{HasSaid}
use Rattle.voter.specs.Known.{Known}
use Rattle.voter.specs.Signing.{HaveSigners}
use Rattle.voter.proofs.Undone.{owes_certify}
use Rattle.voter.proofs.tally.Tally.owes_cert.Goals as goal

pub returns : goal.returns
returns g c =
    let t = c.args.self.now in
    let index = c.self.inside.index in
    c.can_certify.ensures t (sym (ap (λ (k : Known). k.epochs) c.self.view_is))
    (subst
    (λ (k : Known). HaveSigners k.epochs k.id k.notes k.ballots index.came.by_vote.entries
    index.known.by_vote.entries)
    c.self.view_is c.self.invariant.signers)
    (subst (λ (k : Known). HasSaid k.notes index.facts.said.by_key.entries) c.self.view_is
    c.self.invariant.facts.saying)
    (subst (λ (k : Known). HasFirst k.ballots index.certs.first.entries) c.self.view_is
    c.self.invariant.places)
    ∙ sym (owes_certify g.H.Hasher.digest_of t c.args.vote.now)
