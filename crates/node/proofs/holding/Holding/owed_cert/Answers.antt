use Rattle.std.proofs.Common.{ℕ, ◌≤◌, IfSome, IsTrue, Option, length, subst, sym, ◌∙◌, ap, option_map}
use Rattle.cw_types.specs.declared.note.Note.{Note}
use Rattle.cw_types.specs.declared.vote.Cert.{Cert}
use Rattle.cw_types.specs.Votes.{well_formed}
use Rattle.cw_rules.specs.Accepted.{first_some}
use Rattle.cw_rules.specs.Owed.{cert_owed, named_votes}
use Rattle.voter.specs.Owing as owing
use Rattle.node.specs.Holding.{Holding, own_state, rules_of}
use Rattle.node.proofs.Bridges.{cert_storable}
use Rattle.node.proofs.holding.Holding.owed_cert.Goals as goal

pub returns-in-Some-clause-value : goal.returns-in-Some-clause-value
returns-in-Some-clause-value g c =
    let h = c.args.self.now in
    let r = rules_of g.H.Hasher.digest_of g.A.Application.accepts h in
    let law =
    c.tally_stands.ensures.certificates g.H.Hasher.digest_of h.tally r (own_state h)
    c.requires.tally in
    let by =
    ap (λ (n : ℕ). first_some (cert_owed r n (own_state h)) (named_votes (own_state h)))
    c.requires.id in
    let same =
    ap
    (λ (k : Holding g.row.D.Denot g.row.A.Denot). owing.first_cert_owed g.H.Hasher.digest_of
    k.tally)
    c.self.view_is in
    ap (option_map Note.Cert) (sym c.in-Some.is)
    ∙ (c.in_ok-cert.ensures.value ∙ (same ∙ (sym law ∙ by)))

pub returns-in-None-clause-value : goal.returns-in-None-clause-value
returns-in-None-clause-value g c =
    let h = c.args.self.now in
    let r = rules_of g.H.Hasher.digest_of g.A.Application.accepts h in
    let law =
    c.tally_stands.ensures.certificates g.H.Hasher.digest_of h.tally r (own_state h)
    c.requires.tally in
    let by =
    ap (λ (n : ℕ). first_some (cert_owed r n (own_state h)) (named_votes (own_state h)))
    c.requires.id in
    let same =
    ap
    (λ (k : Holding g.row.D.Denot g.row.A.Denot). owing.first_cert_owed g.H.Hasher.digest_of
    k.tally)
    c.self.view_is in
    ap (option_map Note.Cert) (sym c.in-None.is)
    ∙ (c.in_ok-cert.ensures.value ∙ (same ∙ (sym law ∙ by)))

pub returns-in-Some-clause-storable : goal.returns-in-Some-clause-storable
returns-in-Some-clause-storable g c =
    let formed : IsTrue (well_formed c.in-Some.cert.vote) =
    subst (λ (o : Option Cert). IfSome o (λ cert. IsTrue (well_formed cert.vote))) c.in-Some.is
    c.in_ok-cert.ensures.countable in
    let few : length c.in-Some.cert.signers ≤ 65535 =
    subst (λ (o : Option Cert). IfSome o (λ cert. length cert.signers ≤ 65535)) c.in-Some.is
    c.in_ok-cert.ensures.few in
    cert_storable c.in-Some.cert formed few
