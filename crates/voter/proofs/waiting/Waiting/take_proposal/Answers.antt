use Rattle.std.proofs.Common.{◌≡◌, ◌∙◌, ◌++◌, [], List, None, Option, Some, ap, option_map, subst, sym}
use Rattle.std.specs.List.{cons_option}
use Rattle.cw_types.specs.Same.{same_proposal}
use Rattle.cw_types.specs.declared.vote.Proposal.{Proposal}
use Rattle.cw_rules.specs.Owed.{note_proposal}
use Rattle.note_scans.specs.Keys.{keyed}
use Rattle.note_scans.specs.declared.key.VoteKey.{VoteKey}
use Rattle.voter.specs.Lines.{AreLines, IsNoting}
use Rattle.voter.specs.Waiting.{was_but}
use Rattle.voter.proofs.Lineups.{proposals_keyed}
use Rattle.voter.proofs.Waits.{append_none, but_itself, but_others}
use Rattle.voter.proofs.waiting.Waiting.take_proposal.Goals as goal

pub returns-in-Some-clause-proposals : goal.returns-in-Some-clause-proposals
returns-in-Some-clause-proposals c = λ was now says came noted are.
    let p = c.in-Some.proposal.now in
    let names : note_proposal c.args.note.now ≡ Some p =
    sym c.proposal_of.ensures ∙ ap (option_map (λ proposal. proposal.now)) c.in-Some.is in
    subst
    (λ (o : Option Proposal). AreLines (keyed 3) same_proposal (was_but was now o) came
    (noted ++ cons_option o []) c.take_noted.new.self)
    (sym names)
    (c.take_noted.ensures (keyed 3) same_proposal proposals_keyed was (was_but was now (Some p))
    (but_others was now p) (sym c.on.ensures)
    (c.is_open-opens.ensures ∙ (sym (says p) ∙ but_itself was now p)) came noted are)

pub returns-in_default-clause-proposals : goal.returns-in_default-clause-proposals
returns-in_default-clause-proposals c = λ was now says came noted are.
    let names : note_proposal c.args.note.now ≡ None =
    sym c.proposal_of.ensures ∙ ap (option_map (λ proposal. proposal.now)) c.in_default.is in
    subst
    (λ (o : Option Proposal). AreLines (keyed 3) same_proposal (was_but was now o) came
    (noted ++ cons_option o []) c.args.self.now.proposals)
    (sym names)
    (subst
    (λ (ps : List Proposal). AreLines (keyed 3) same_proposal (was_but was now None) came ps
    c.args.self.now.proposals)
    (sym (append_none noted)) are)

pub take_noted-requires : goal.take_noted-requires
take_noted-requires c =
    subst (λ (k : VoteKey). IsNoting k c.args.self.now.proposals) (sym c.on.ensures)
    (c.requires c.in-Some.proposal.now
    (sym c.proposal_of.ensures ∙ ap (option_map (λ proposal. proposal.now)) c.in-Some.is))
