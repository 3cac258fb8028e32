use Rattle.std.proofs.Common.{refl, subst, sym}
use Rattle.cw_types.specs.Same.{same_proposal}
use Rattle.cw_types.specs.declared.vote.Proposal.{Proposal}
use Rattle.note_scans.specs.Keys.{keyed}
use Rattle.voter.specs.Lines.{AreLines, IsComing}
use Rattle.voter.specs.declared.lines.Lines.{Lines}
use Rattle.voter.proofs.Lineups.{proposals_keyed}
use Rattle.voter.proofs.waiting.Waiting.name.Goals as goal

pub take_came-requires : goal.take_came-requires
take_came-requires c =
    subst (λ (l : Lines Proposal). IsComing c.on-key.result l) (sym c.list_in_view.ensures.proposals)
    (subst (λ k. IsComing k c.args.self.now.proposals) (sym c.on-key.ensures) c.requires.proposals)

pub returns-clause-proposals : goal.returns-clause-proposals
returns-clause-proposals c = λ now came noted opens are.
    c.take_came.ensures (keyed 3) same_proposal proposals_keyed now now (λ y k. refl)
    (sym c.on-key.ensures) opens came noted
    (subst (λ (l : Lines Proposal). AreLines (keyed 3) same_proposal now came noted l)
    (sym c.list_in_view.ensures.proposals) are)

pub returns-clause-views : goal.returns-clause-views
returns-clause-views c = λ now came noted there are has.
    c.list_in_view.ensures.views now came noted (sym c.on-key.ensures) there are has
