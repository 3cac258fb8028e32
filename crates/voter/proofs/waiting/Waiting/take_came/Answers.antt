use Rattle.std.proofs.Common.{◌≡◌, ◌∙◌, ◌++◌, ◌∷◌, [], List, None, Some, ap, filter_map, map, option_map, subst, sym}
use Rattle.cw_types.specs.Epochs.{Epochs}
use Rattle.cw_types.specs.Same.{same_proposal, same_vote}
use Rattle.cw_types.specs.Votes.{proposal_of}
use Rattle.cw_types.specs.declared.vote.Proposal.{Proposal}
use Rattle.cw_types.specs.declared.vote.Vote.{Vote}
use Rattle.cw_rules.specs.Owed.{ballot_vote, note_proposal, note_vote}
use Rattle.note_scans.specs.Keys.{key_of, keyed}
use Rattle.voter.specs.Lines.{AreLines}
use Rattle.voter.specs.Views.{HasViews}
use Rattle.voter.specs.Waiting.{also_came, came_proposals, can_certify, is_open, is_open_by}
use Rattle.voter.specs.declared.lines.Lines.{Lines}
use Rattle.voter.proofs.Certifying.{certify_came}
use Rattle.voter.proofs.Lineups.{votes_keyed}
use Rattle.voter.proofs.Undone.{open_by}
use Rattle.voter.proofs.Waits.{append_none, proposals_more, votes_more}
use Rattle.voter.proofs.waiting.Waiting.take_came.Goals as goal

pub returns-in-Some : goal.returns-in-Some
returns-in-Some c = λ t b epochs id has are is certifies.
    let v = c.args.vote.now in
    let p = c.in-Some.proposal.now in
    let notes = filter_map note_vote t.notes in
    let proposals = filter_map note_proposal t.notes in
    let test = is_open t.epochs t.id t.notes in
    let names : proposal_of v ≡ Some p =
    sym c.voted_proposal.ensures ∙ ap (option_map (λ proposal. proposal.now)) c.in-Some.is in
    let opens : c.is_open-opens.result ≡ test p =
    c.is_open-opens.ensures
    ∙ (ap (λ (x : Epochs). is_open_by x c.args.id c.args.said.now.by_key.entries p) (sym epochs)
    ∙ (ap (λ i. is_open_by t.epochs i c.args.said.now.by_key.entries p) (sym id)
    ∙ open_by t.epochs t.id t.notes c.args.said.now.by_key.entries has p)) in
    record {
      votes =
          subst
          (λ (vs : List Vote). AreLines key_of same_vote (can_certify (also_came t b)) vs notes
          c.name.new.self.votes)
          (votes_more t.ballots b v is)
          (subst
          (λ (l : Lines Vote). AreLines key_of same_vote (can_certify (also_came t b))
          (map ballot_vote t.ballots ++ v ∷ []) notes l)
          (sym c.name.ensures.votes)
          (c.take_came.ensures key_of same_vote votes_keyed (can_certify t)
          (can_certify (also_came t b))
          (λ y k. certify_came t b y (ap (λ (w : Vote). same_vote w y) is ∙ k)) (sym c.new.ensures)
          certifies (map ballot_vote t.ballots) notes are.votes));
      proposals =
          subst
          (λ (ps : List Proposal). AreLines (keyed 3) same_proposal test ps proposals
          c.name.new.self.proposals)
          (proposals_more t.ballots b v (Some p) is names)
          (c.name.ensures.proposals test (came_proposals t.ballots) proposals opens are.proposals);
      in_views =
          subst
          (λ (ps : List Proposal). HasViews ps c.name.new.self.views.by_view.entries)
          (proposals_more t.ballots b v (Some p) is names)
          (c.name.ensures.views test (came_proposals t.ballots) proposals
          (c.requires.key p names) are.proposals are.in_views);
    }

pub returns-in_default : goal.returns-in_default
returns-in_default c = λ t b epochs id has are is certifies.
    let v = c.args.vote.now in
    let notes = filter_map note_vote t.notes in
    let proposals = filter_map note_proposal t.notes in
    let test = is_open t.epochs t.id t.notes in
    let names : proposal_of v ≡ None =
    sym c.voted_proposal.ensures ∙ ap (option_map (λ proposal. proposal.now)) c.in_default.is in
    let same : came_proposals t.ballots ≡ came_proposals (t.ballots ++ b ∷ []) =
    sym (append_none (came_proposals t.ballots)) ∙ proposals_more t.ballots b v None is names in
    record {
      votes =
          subst
          (λ (vs : List Vote). AreLines key_of same_vote (can_certify (also_came t b)) vs notes
          c.take_came.new.self)
          (votes_more t.ballots b v is)
          (c.take_came.ensures key_of same_vote votes_keyed (can_certify t)
          (can_certify (also_came t b))
          (λ y k. certify_came t b y (ap (λ (w : Vote). same_vote w y) is ∙ k)) (sym c.new.ensures)
          certifies (map ballot_vote t.ballots) notes are.votes);
      proposals =
          subst
          (λ (ps : List Proposal). AreLines (keyed 3) same_proposal test ps proposals
          c.args.self.now.proposals)
          same are.proposals;
      in_views =
          subst (λ (ps : List Proposal). HasViews ps c.args.self.now.views.by_view.entries) same
          are.in_views;
    }

pub name-requires-clause-proposals : goal.name-requires-clause-proposals
name-requires-clause-proposals c =
    c.requires.proposal c.in-Some.proposal.now
    (sym c.voted_proposal.ensures ∙ ap (option_map (λ proposal. proposal.now)) c.in-Some.is)
