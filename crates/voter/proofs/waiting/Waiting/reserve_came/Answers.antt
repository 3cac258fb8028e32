use Rattle.std.proofs.Common.{filter_map, map}
use Rattle.cw_types.specs.Same.{same_proposal, same_vote}
use Rattle.cw_rules.specs.Owed.{ballot_vote, note_proposal, note_vote}
use Rattle.note_scans.specs.Keys.{key_of, keyed}
use Rattle.voter.specs.Waiting.{came_proposals, can_certify, is_open}
use Rattle.voter.proofs.waiting.Waiting.reserve_came.Goals as goal

pub returns-in_err-prepare_came-clause-waiting : goal.returns-in_err-prepare_came-clause-waiting
returns-in_err-prepare_came-clause-waiting c = λ t are. record {
  votes =
      c.prepare_came.ensures.same key_of same_vote (can_certify t) (map ballot_vote t.ballots)
      (filter_map note_vote t.notes) are.votes;
  proposals =
      are.proposals;
  in_views =
      are.in_views;
}

pub returns-in_err-prepare_came-2-clause-waiting : goal.returns-in_err-prepare_came-2-clause-waiting
returns-in_err-prepare_came-2-clause-waiting c = λ t are. record {
  votes =
      c.prepare_came.ensures.same key_of same_vote (can_certify t) (map ballot_vote t.ballots)
      (filter_map note_vote t.notes) are.votes;
  proposals =
      c.prepare_came-in-Some.ensures.same (keyed 3) same_proposal (is_open t.epochs t.id t.notes)
      (came_proposals t.ballots) (filter_map note_proposal t.notes) are.proposals;
  in_views =
      are.in_views;
}

pub returns-in_err-prepare-clause-waiting : goal.returns-in_err-prepare-clause-waiting
returns-in_err-prepare-clause-waiting c = λ t are. record {
  votes =
      c.prepare_came.ensures.same key_of same_vote (can_certify t) (map ballot_vote t.ballots)
      (filter_map note_vote t.notes) are.votes;
  proposals =
      c.prepare_came-in-Some.ensures.same (keyed 3) same_proposal (is_open t.epochs t.id t.notes)
      (came_proposals t.ballots) (filter_map note_proposal t.notes) are.proposals;
  in_views =
      c.prepare.ensures.same (came_proposals t.ballots) are.in_views;
}

pub returns-in_ok-prepare-clause-waiting : goal.returns-in_ok-prepare-clause-waiting
returns-in_ok-prepare-clause-waiting c = λ t are. record {
  votes =
      c.prepare_came.ensures.same key_of same_vote (can_certify t) (map ballot_vote t.ballots)
      (filter_map note_vote t.notes) are.votes;
  proposals =
      c.prepare_came-in-Some.ensures.same (keyed 3) same_proposal (is_open t.epochs t.id t.notes)
      (came_proposals t.ballots) (filter_map note_proposal t.notes) are.proposals;
  in_views =
      c.prepare.ensures.same (came_proposals t.ballots) are.in_views;
}

pub returns-in_default-clause-waiting : goal.returns-in_default-clause-waiting
returns-in_default-clause-waiting c = λ t are. record {
  votes =
      c.prepare_came.ensures.same key_of same_vote (can_certify t) (map ballot_vote t.ballots)
      (filter_map note_vote t.notes) are.votes;
  proposals =
      are.proposals;
  in_views =
      are.in_views;
}
