use Rattle.std.proofs.Common.{Some, ap, ◌∙◌, sym}
use Rattle.cw_types.specs.declared.note.Note.{Note}
use Rattle.voter.specs.Known.{known_state, vote_rules}
use Rattle.voter.specs.Owing.{owes_cert}
use Rattle.voter.proofs.Certified.{cert_found, cert_missing}
use Rattle.voter.proofs.tally.Tally.owed_cert.Goals as goal

pub returns-in_ok-signers-in-Some-clause-value : goal.returns-in_ok-signers-in-Some-clause-value
unfolding owes_cert
returns-in_ok-signers-in-Some-clause-value g c =
    ap (λ xs. Some (Note.Cert (record {
      vote = c.in-Some.vote;
      signers = xs;
    }))) c.in_ok-signers-in-Some.ensures.value
    ∙ sym
    (cert_found (vote_rules g.H.Hasher.digest_of c.args.self.now.epochs) c.args.self.now.id
    (known_state c.args.self.now) c.first_owing.result c.in-Some.vote
    c.first_owing.ensures.value c.in-Some.is)

pub returns-in-None-clause-value : goal.returns-in-None-clause-value
unfolding owes_cert
returns-in-None-clause-value g c =
    sym
    (cert_missing (vote_rules g.H.Hasher.digest_of c.args.self.now.epochs) c.args.self.now.id
    (known_state c.args.self.now) c.first_owing.result c.first_owing.ensures.value
    c.in-None.is)
