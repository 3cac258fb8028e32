use Rattle.std.proofs.Common.{ℕ, sym, ◌∙◌, ap, option_map}
use Rattle.cw_types.specs.declared.note.Note.{Note}
use Rattle.cw_rules.specs.Accepted.{first_some}
use Rattle.cw_rules.specs.Owed.{finalize_owed, named_proposals}
use Rattle.voter.specs.Owing as owing
use Rattle.node.specs.Holding.{Holding, own_state, rules_of}
use Rattle.node.proofs.holding.Holding.owed_finalize.Goals as goal

pub returns-in-Some-clause-value : goal.returns-in-Some-clause-value
returns-in-Some-clause-value g c =
    let h = c.args.self.now in
    let hash = g.H.Hasher.digest_of in
    let r = rules_of hash g.A.Application.accepts h in
    let f =
    sym (c.tally_stands.ensures.finalized hash h.tally r (own_state h) c.requires.tally)
    ∙ ap (λ (k : ℕ). first_some (finalize_owed r k (own_state h))
    (named_proposals (own_state h)))
    c.requires.id in
    let same =
    ap (λ (k : Holding g.row.D.Denot g.row.A.Denot). owing.first_finalize_owed hash k.tally)
    c.self.view_is in
    ap (option_map Note.Vote) (sym c.in-Some.is)
    ∙ (c.owed_finalize.ensures.value ∙ (same ∙ f))

pub returns-in-None-clause-value : goal.returns-in-None-clause-value
returns-in-None-clause-value g c =
    let h = c.args.self.now in
    let hash = g.H.Hasher.digest_of in
    let r = rules_of hash g.A.Application.accepts h in
    let f =
    sym (c.tally_stands.ensures.finalized hash h.tally r (own_state h) c.requires.tally)
    ∙ ap (λ (k : ℕ). first_some (finalize_owed r k (own_state h))
    (named_proposals (own_state h)))
    c.requires.id in
    let same =
    ap (λ (k : Holding g.row.D.Denot g.row.A.Denot). owing.first_finalize_owed hash k.tally)
    c.self.view_is in
    ap (option_map Note.Vote) (sym c.in-None.is)
    ∙ (c.owed_finalize.ensures.value ∙ (same ∙ f))
