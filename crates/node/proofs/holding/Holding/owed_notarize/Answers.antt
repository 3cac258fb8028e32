use Rattle.std.proofs.Common.{ℕ, sym, ◌∙◌, ap, option_map}
use Rattle.cw_types.specs.declared.note.Note.{Note}
use Rattle.cw_types.specs.declared.vote.Vote.TheVariants.{Notarize}
use Rattle.cw_types.specs.declared.vote.Proposal.{Proposal}
use Rattle.cw_rules.specs.Accepted.{first_some}
use Rattle.cw_rules.specs.Owed.{named_proposals, notarize_owed}
use Rattle.node.specs.Holding.{own_state, rules_of}
use Rattle.node.proofs.holding.Holding.owed_notarize.Goals as goal

pub returns-in-Some-clause-value : goal.returns-in-Some-clause-value
returns-in-Some-clause-value g c =
    let h = c.args.self.now in
    let hash = g.H.Hasher.digest_of in
    let r = rules_of hash g.A.Application.accepts h in
    let law = c.tally_stands.ensures.votable hash h.tally r (own_state h)
    c.requires.stands.tally in
    let by =
    ap (λ (k : ℕ). first_some (notarize_owed r k (own_state h))
    (named_proposals (own_state h)))
    c.requires.stands.id in
    ap (option_map (λ (p : Proposal). Note.Vote (Notarize p)))
    (sym c.in-Some.is ∙ c.in_ok-proposal.ensures.value)
    ∙ (sym law ∙ by)

pub returns-in-None-clause-value : goal.returns-in-None-clause-value
returns-in-None-clause-value g c =
    let h = c.args.self.now in
    let hash = g.H.Hasher.digest_of in
    let r = rules_of hash g.A.Application.accepts h in
    let law = c.tally_stands.ensures.votable hash h.tally r (own_state h)
    c.requires.stands.tally in
    let by =
    ap (λ (k : ℕ). first_some (notarize_owed r k (own_state h))
    (named_proposals (own_state h)))
    c.requires.stands.id in
    ap (option_map (λ (p : Proposal). Note.Vote (Notarize p)))
    (sym c.in-None.is ∙ c.in_ok-proposal.ensures.value)
    ∙ (sym law ∙ by)
