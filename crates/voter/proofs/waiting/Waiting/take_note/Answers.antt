use Rattle.std.proofs.Common.{◌≡◌, ◌∙◌, ◌++◌, ◌∷◌, [], List, ℕ, ap, filter, filter_map, map, subst, sym}
use Rattle.std.specs.List.{cons_option}
use Rattle.cw_types.specs.Epochs.{Epochs}
use Rattle.cw_types.specs.Same.{same_proposal, same_vote}
use Rattle.cw_types.specs.declared.vote.Proposal.{Proposal}
use Rattle.cw_types.specs.declared.vote.Vote.{Vote}
use Rattle.cw_rules.specs.Owed.{ballot_vote, note_proposal, note_vote}
use Rattle.note_scans.specs.Keys.{key_of, keyed, same_key}
use Rattle.voter.specs.Known.{with_note}
use Rattle.voter.specs.Lineup.{IsLineup}
use Rattle.voter.specs.Lines.{AreLines, IsNoting}
use Rattle.voter.specs.Views.{HasViews}
use Rattle.voter.specs.Waiting.{came_proposals, can_certify, is_open, is_open_by, was_but}
use Rattle.voter.specs.declared.lines.Lines.{Lines}
use Rattle.voter.specs.declared.views.Views.{Views}
use Rattle.voter.proofs.Lineups.{lineup_left}
use Rattle.voter.proofs.Undone.{open_by, open_more}
use Rattle.voter.proofs.Waits.{note_proposals_more, note_votes_more}
use Rattle.voter.proofs.waiting.Waiting.take_note.Goals as goal

pub returns : goal.returns
returns c = λ t epochs id has are certifies.
    let note = c.args.note.now in
    let said = c.args.said.now.by_key.entries in
    let votes = filter_map note_vote t.notes in
    let came = came_proposals t.ballots in
    let noted = filter_map note_proposal t.notes in
    let opened = is_open t.epochs t.id t.notes in
    let now = is_open t.epochs t.id (t.notes ++ note ∷ []) in
    let was = was_but opened now (note_proposal note) in
    let l = c.take_proposal.new.self.proposals in
    let by : (p : Proposal) → is_open_by c.args.committees.now c.args.id said p
    ≡ is_open_by t.epochs t.id said p =
    λ p. ap (λ (x : Epochs). is_open_by x c.args.id said p) (sym epochs)
    ∙ ap (λ i. is_open_by t.epochs i said p) (sym id) in
    let are_now : AreLines (keyed 3) same_proposal was came
    (noted ++ cons_option (note_proposal note) []) l =
    c.take_proposal.ensures.proposals opened now
    (λ p. sym (by p ∙ open_by t.epochs t.id (t.notes ++ note ∷ []) said has p)) came noted
    (subst (λ (k : Lines Proposal). AreLines (keyed 3) same_proposal opened came noted k)
    (sym c.take_vote.ensures.proposals) are.proposals) in
    let tests = λ (xs : List (ℕ × Proposal)).
    ap (λ (x : Epochs). filter (λ (at : ℕ × Proposal). is_open_by x c.args.id said at.1) xs)
    (sym epochs)
    ∙ ap (λ i. filter (λ (at : ℕ × Proposal). is_open_by t.epochs i said at.1) xs) (sym id) in
    record {
      votes =
          subst
          (λ (vs : List Vote). AreLines key_of same_vote (can_certify (with_note t note))
          (map ballot_vote t.ballots) vs c.take_proposal.new.self.votes)
          (note_votes_more t.notes note)
          (subst
          (λ (k : Lines Vote). AreLines key_of same_vote (can_certify (with_note t note))
          (map ballot_vote t.ballots) (votes ++ cons_option (note_vote note) []) k)
          (sym c.take_proposal.ensures.votes)
          (c.take_vote.ensures.votes t certifies (map ballot_vote t.ballots) votes are.votes));
      proposals = record {
        of_came =
            lineup_left same_key (keyed 3) same_proposal was (is_open_by t.epochs t.id said) now came
            l.came.places.entries l.came.count l.came.waiting.items c.drop_closed.new.list.items
            (open_more t.epochs t.id t.notes note said has)
            (c.drop_closed.ensures ∙ tests l.came.waiting.items) are_now.of_came;
        of_notes =
            subst
            (λ (ps : List Proposal). IsLineup same_key (keyed 3) same_proposal now ps
            l.noted.places.entries l.noted.count c.drop_closed-2.new.list.items)
            (note_proposals_more t.notes note)
            (lineup_left same_key (keyed 3) same_proposal was (is_open_by t.epochs t.id said) now
            (noted ++ cons_option (note_proposal note) []) l.noted.places.entries l.noted.count
            l.noted.waiting.items c.drop_closed-2.new.list.items
            (open_more t.epochs t.id t.notes note said has)
            (c.drop_closed-2.ensures ∙ tests l.noted.waiting.items) are_now.of_notes);
      };
      in_views =
          subst (λ (v : Views). HasViews came v.by_view.entries)
          (sym (c.take_proposal.ensures.views ∙ c.take_vote.ensures.views)) are.in_views;
    }

pub take_proposal-requires : goal.take_proposal-requires
take_proposal-requires c = λ p e.
    subst (λ (k : Lines Proposal). IsNoting (keyed 3 p) k) (sym c.take_vote.ensures.proposals)
    (c.requires.proposal p e)
